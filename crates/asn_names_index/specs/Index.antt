-- Where the last definition of each name stands.
use Rattle.std.specs.Prelude.{◌≡◌, ℕ, ◌+◌, List, [], ◌∷◌, Option, Some, None, is_some, if◌then◌else◌, fold, slice_get}
use Rattle.std.specs.BTreeMap.{BTreeMap, get_by_text}
use Rattle.std.specs.declared.string.String.{String}
use Rattle.std.specs.declared.alloc.Global.{Global}
use Rattle.asn_tree.specs.declared.definitions.ToplevelDefinition.{ToplevelDefinition}
use Rattle.asn_names_index.specs.declared.names.LastPlace.{LastPlace}
use Rattle.asn_names_index.specs.Definitions.{Definitions, is_named}

-- how many definitions were gone through, and the place of the last of the name among them
abbrev pub gone_through : List ℕ → ℕ × Option LastPlace → ToplevelDefinition → ℕ × Option LastPlace
gone_through name so_far d =
    (so_far.0 + 1, if is_named name d then Some (record { at = so_far.0; is_repeated = is_some so_far.1 }) else so_far.1)

abbrev pub place_in : Definitions → List ℕ → Option LastPlace
place_in defs name = (fold (gone_through name) (0, None) defs).1

abbrev pub IsIndexOf : Definitions → BTreeMap (String Global) LastPlace → Type 0
IsIndexOf defs index = (name : List ℕ) → get_by_text index name ≡ place_in defs name

abbrev pub before : Option ToplevelDefinition → Definitions → Definitions
before (Some d) ds = d ∷ ds
before None ds = ds

-- the definitions at these places
abbrev pub found_at : Definitions → List (String Global × LastPlace) → Definitions
found_at defs [] = []
found_at defs (e ∷ es) = before (slice_get defs e.1.at) (found_at defs es)
