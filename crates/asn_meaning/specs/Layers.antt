-- One level of each type of tree, and what stands in it.
pub use Rattle.asn_tree.specs.Layers.{ChoiceLayer, ConstraintLayer, ElementLayer, FieldLayer, FieldsLayer, ItemLayer, LinkedLayer, ListLayer, MemberLayer, OperationLayer, OptionLayer, ParameterLayer, SetLayer, StructLayer, TypeLayer, ValueLayer}
use Rattle.asn_tree.specs.declared.constraints.Constraint.{Constraint}
use Rattle.asn_tree_kinds.specs.declared.constraints.ConstrainedComponentOver.{ConstrainedComponentOver}
use Rattle.asn_tree_kinds.specs.declared.constraints.InnerTypeConstraintOver.{InnerTypeConstraintOver}
use Rattle.asn_tree_kinds.specs.declared.objects.InformationObjectFieldReferenceOver.{InformationObjectFieldReferenceOver}
use Rattle.asn_tree_kinds.specs.declared.types.DeclarationElsewhereOver.{DeclarationElsewhereOver}

-- a type reference
abbrev pub ReferenceLayer : Type 0
ReferenceLayer = DeclarationElsewhereOver Constraint

-- the type of a class's field
abbrev pub ClassFieldLayer : Type 0
ClassFieldLayer = InformationObjectFieldReferenceOver Constraint

-- the components of a WITH COMPONENTS, and one of them
abbrev pub InnerLayer : Type 0
InnerLayer = InnerTypeConstraintOver Constraint

abbrev pub ListedLayer : Type 0
ListedLayer = ConstrainedComponentOver Constraint
