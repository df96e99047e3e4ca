-- The definitions of modules, and the types that they give.
use Rattle.std.specs.Prelude.{List, [], ◌∷◌, ◌++◌, Option, Some, None}
pub use Rattle.asn_meaning.specs.Definitions.{Definitions, last_named}
use Rattle.asn_tree.specs.declared.definitions.ToplevelDefinition.{ToplevelDefinition}
use Rattle.asn_tree.specs.declared.definitions.ToplevelDefinition.TheVariants.{TypeDef, Value, Information}
use Rattle.asn_tree_headers.specs.declared.headers.ModuleReference.{ModuleReference}
use Rattle.asn_tree.specs.declared.types.ASN1Type.{ASN1Type}

-- a module: its header and its definitions
abbrev pub Module : Type 0
Module = ModuleReference × Definitions

-- all definitions of all modules, in order
abbrev pub definitions_of : List Module → Definitions
definitions_of [] = []
definitions_of (m ∷ ms) = m.1 ++ definitions_of ms

-- the type of a type definition; other definitions have none
abbrev pub type_of : ToplevelDefinition → Option ASN1Type
type_of (TypeDef d) = Some d.ty
type_of (Value d) = None
type_of (Information d) = None
