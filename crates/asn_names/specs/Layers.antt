-- One level of each type of tree, and what stands in it.
pub use Rattle.asn_tree.specs.Layers.{ConstraintLayer, ElementLayer, MemberLayer, SetLayer, StructLayer, TypeLayer, ValueLayer}
use Rattle.asn_tree_kinds.specs.declared.types.BooleanOver.{BooleanOver}
use Rattle.asn_tree.specs.declared.types.IntegerOver.{IntegerOver}
use Rattle.asn_tree_kinds.specs.declared.types.DeclarationElsewhereOver.{DeclarationElsewhereOver}
use Rattle.asn_tree.specs.declared.constraints.Constraint.{Constraint}

abbrev pub BooleanLayer : Type 0
BooleanLayer = BooleanOver Constraint

abbrev pub IntegerLayer : Type 0
IntegerLayer = IntegerOver Constraint

abbrev pub ReferenceLayer : Type 0
ReferenceLayer = DeclarationElsewhereOver Constraint
