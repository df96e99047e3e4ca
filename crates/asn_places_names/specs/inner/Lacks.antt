-- Names that have no definition, and those that need none.
use Rattle.std.specs.Prelude.{ℕ, List, Bool, true, not, Option, ◌||◌, ◌&&◌}
use Rattle.asn_meaning.specs.Answers.{once}
use Rattle.asn_meaning.specs.Definitions.{Definitions, see}
use Rattle.asn_meaning.specs.Scopes.{Place}
use Rattle.asn_needs.specs.Occurrences.{Need, NeedsValue, hangs_at, is_own_name, sort_of, takes}
use Rattle.asn_needs.specs.Sites.{Seen}

-- the name has no definition that serves the need
abbrev pub lacks : Definitions → Need → List ℕ → Bool
lacks defs need name = once true (see defs name) (λ d. not (takes need (sort_of d)))

-- A name under the type is none of a definition: it is an item or a named number of the head, or it has no value's definition and may
-- be an item of the argument that the head hangs on.
abbrev pub is_aside : Seen → Option Place → List ℕ → Bool
is_aside S p name = is_own_name S p name || (hangs_at S p && lacks S.defs NeedsValue name)
