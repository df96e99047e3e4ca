-- The parts of a tree.
use Rattle.std.specs.Prelude.{Option, Some, None}
use Rattle.asn_tree.specs.declared.types.ASN1Type.{ASN1Type}
use Rattle.asn_meaning_shapes.specs.declared.parts.Alternative.{Alternative as LentAlternative}
use Rattle.asn_meaning_shapes.specs.Trees.{Named, shown_tree}
use Rattle.asn_meaning.specs.Kinds.{Kind, ListKind}
use Rattle.asn_meaning.specs.ValueTrees.{ValueTree, Struct, Elements, Alternative, Fields, ValueTrees}

-- the fields of a struct
abbrev pub fields_in : ValueTree → Option Fields
fields_in (Struct fs) = Some fs
fields_in _ = None

-- the elements of a list
abbrev pub elements_in : ValueTree → Option ValueTrees
elements_in (Elements ts) = Some ts
elements_in _ = None

-- the name of an alternative, and its tree
abbrev pub alternative_in : ValueTree → Option Named
alternative_in (Alternative name t) = Some (name, t)
alternative_in _ = None

abbrev pub shown_alternative : LentAlternative → Named
shown_alternative a = (a.name.now, shown_tree a.tree.now)

-- the type of the elements of a list
abbrev pub type_of_elements : Kind → Option ASN1Type
type_of_elements (ListKind ty) = Some ty
type_of_elements _ = None
