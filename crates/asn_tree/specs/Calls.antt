-- What the calls on trees answer.
use Rattle.std.specs.Prelude.{ℕ, List, Option, Some}
use Rattle.asn_tree.specs.declared.definitions.ToplevelDefinition.{ToplevelDefinition}
use Rattle.asn_tree.specs.declared.definitions.ToplevelDefinition.TheVariants.{TypeDef, Value, Information}

abbrev pub name_of : ToplevelDefinition → List ℕ
name_of (TypeDef d) = d.name
name_of (Value d) = d.name
name_of (Information d) = d.name

abbrev pub index_of : ToplevelDefinition → Option (ℕ × ℕ)
index_of (TypeDef d) = d.index
index_of (Value d) = d.index
index_of (Information d) = d.index

-- the definition with these numbers, all else the same
abbrev pub numbered : ℕ → ℕ → ToplevelDefinition → ToplevelDefinition
numbered home item (TypeDef d) = TypeDef (record d { index = Some (home, item) })
numbered home item (Value d) = Value (record d { index = Some (home, item) })
numbered home item (Information d) = Information (record d { index = Some (home, item) })
