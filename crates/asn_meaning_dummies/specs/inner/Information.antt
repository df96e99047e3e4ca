-- Names that a scope does not bind.
use Rattle.std.specs.Prelude.{ℕ, List, Option, Some, None, if◌then◌else◌}
use Rattle.asn_meaning_heads.specs.Circles.{plain_name_in}
use Rattle.asn_meaning.specs.Answers.{once}
use Rattle.asn_meaning.specs.Kinds.{Kind}
use Rattle.asn_meaning.specs.Scopes.{Scope}
use Rattle.asn_needs.specs.Dummies.{is_dummy}

-- the name, where there is one that the scope does not bind
abbrev pub free_name : Scope → Option (List ℕ) → Option (List ℕ)
free_name scope name = once None name (λ x. if is_dummy scope x then None else Some x)

-- the name that a type of the kind is, with nothing before it, where the scope does not bind it
abbrev pub free_name_at : Scope → Kind → Option (List ℕ)
free_name_at scope k = free_name scope (plain_name_in k)
