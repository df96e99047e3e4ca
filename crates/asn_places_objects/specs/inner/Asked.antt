-- What is asked of arguments and governors, by part of the definitions of asn_needs.
use Rattle.std.specs.Prelude.{ℕ, List, Bool, false, is_some}
use Rattle.asn_meaning.specs.Answers.{once}
use Rattle.asn_meaning.specs.Denotes.{own_name}
use Rattle.asn_meaning.specs.Meaning.{Meaning}
use Rattle.asn_meaning.specs.Scopes.{Place}

-- whether the name is an item or a named number of the type's head
abbrev pub is_own_named : Meaning → Place → List ℕ → Bool
is_own_named M p name = once false (M.head p) (λ head. is_some (own_name head name))
