-- Which names a definition reaches.
use Rattle.std.specs.Prelude.{◌≡◌, ℕ, List, Some}
use Rattle.std.specs.List.{Contains}
use Rattle.asn_tree.specs.declared.definitions.ToplevelDefinition.{ToplevelDefinition}
use Rattle.asn_meaning.specs.Definitions.{see}
use Rattle.asn_names.specs.Definitions.{Definitions}
pub use Rattle.asn_meaning_unchanged.specs.References.{names_of}

-- The type references that occur in a definition, then those that occur in their definitions, and so on.
pub data Reaches (defs : Definitions) (d : ToplevelDefinition) : List ℕ → Type 0 where
  occurs : {x : List ℕ} → Contains (names_of d) x → Reaches defs d x
  goes_on : {x y : List ℕ} {e : ToplevelDefinition} → Reaches defs d x → see defs x ≡ Some e → Contains (names_of e) y → Reaches defs d y
