-- The given definitions of a reading that stand.
use Rattle.std.specs.Prelude.{◌≡◌, ℕ, List, map, Some}
use Rattle.std.specs.Cmp.Lexicographic.{slice_cmp}
use Rattle.std.specs.List.{All}
use Rattle.std.specs.List.Sorted.{IsStrictlySortedBy}
use Rattle.std.specs.Ordering.{nat_cmp}
use Rattle.asn_tree.specs.declared.definitions.ToplevelDefinition.{ToplevelDefinition}
use Rattle.asn_names_index.specs.Definitions.{name_of}
use Rattle.asn_names.specs.Definitions.{Definitions, Module, definitions_of, last_named}
use Rattle.asn_names.specs.Given.{given_definitions}

-- some definition has the name
abbrev pub IsDefined : Definitions → List ℕ → Type 0
IsDefined defs name = (d : ToplevelDefinition) × (last_named defs name ≡ Some d)

-- One for each name.
pub record AreGiven (reading : List Module) (standing : Definitions) : Type 0 where
  -- in byte order of names, each name once
  pub ascending : IsStrictlySortedBy (slice_cmp nat_cmp) (map name_of standing)
  -- each is the last of its name in the reading, with its numbers and its module's tagging environment
  pub as_read : All (λ d. last_named (given_definitions reading) (name_of d) ≡ Some d) standing
  -- each name that the reading defines stands
  pub kept : (name : List ℕ) (d : ToplevelDefinition) → last_named (definitions_of reading) name ≡ Some d → IsDefined standing name
