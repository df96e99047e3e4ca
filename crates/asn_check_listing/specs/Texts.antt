-- The text of each type of tree, from its parts upwards.
use Rattle.std.specs.Prelude.{ℕ, List, ◌++◌, Option, codes, map}
use Rattle.asn_check_listing.specs.Constraints as constraints
use Rattle.asn_check_listing.specs.Constraints.{listed_text, set_items}
use Rattle.asn_check_listing.specs.Objects as objects
use Rattle.asn_tree_kinds.specs.declared.constraints.ConstrainedComponentOver.{ConstrainedComponentOver}
use Rattle.asn_tree_kinds.specs.declared.objects.ObjectSetValueOver.{ObjectSetValueOver}
use Rattle.asn_tree_kinds.specs.declared.objects.ObjectSetValueOver.TheVariants.{Reference, Inline}
use Rattle.asn_check_listing.specs.Parts.{Letters}
use Rattle.asn_check_listing.specs.Types as types
use Rattle.asn_check_listing.specs.Values as values
use Rattle.asn_tree.specs.Folds.{Algebra, of_constraint, of_content, of_set, of_parameter, of_element, of_field, of_fields, of_item, of_type, of_value, of_operation, of_choice, of_option, of_struct, of_member, of_list, of_linked}
use Rattle.asn_tree.specs.declared.constraints.Constraint.{Constraint}
use Rattle.asn_tree.specs.declared.constraints.ContentConstraint.{ContentConstraint}
use Rattle.asn_tree.specs.declared.constraints.ElementOrSetOperation.{ElementOrSetOperation}
use Rattle.asn_tree.specs.declared.constraints.Parameter.{Parameter}
use Rattle.asn_tree.specs.declared.constraints.SetOperation.{SetOperation}
use Rattle.asn_tree.specs.declared.constraints.SubtypeElement.{SubtypeElement}
use Rattle.asn_tree.specs.declared.objects.InformationObjectField.{InformationObjectField}
use Rattle.asn_tree.specs.declared.objects.InformationObjectFields.{InformationObjectFields}
use Rattle.asn_tree.specs.declared.objects.SyntaxApplication.{SyntaxApplication}
use Rattle.asn_tree.specs.declared.types.ASN1Type.{ASN1Type}
use Rattle.asn_tree.specs.declared.types.Choice.{Choice}
use Rattle.asn_tree.specs.declared.types.ChoiceOption.{ChoiceOption}
use Rattle.asn_tree.specs.declared.types.SequenceOrSet.{SequenceOrSet}
use Rattle.asn_tree.specs.declared.types.SequenceOrSetMember.{SequenceOrSetMember}
use Rattle.asn_tree.specs.declared.types.SequenceOrSetOf.{SequenceOrSetOf}
use Rattle.asn_tree.specs.declared.values.ASN1Value.{ASN1Value}
use Rattle.asn_tree.specs.declared.values.LinkedField.{LinkedField}

abbrev pub lines : Algebra Letters
lines =
    record {
      at_constraint = constraints.constraint_line;
      at_content = constraints.content_line;
      at_set = constraints.operand_line;
      at_parameter = constraints.parameter_line;
      at_element = constraints.element_line;
      at_field = objects.field_line;
      at_fields = objects.fields_line;
      at_item = objects.item_line;
      at_type = types.type_line;
      at_value = values.value_line;
      at_operation = constraints.operation_line;
      at_choice = types.choice_line;
      at_option = types.option_line;
      at_struct = types.struct_line;
      at_member = types.member_line;
      at_list = types.list_line;
      at_linked = values.field_line;
    }

abbrev pub constraint_text : Constraint → Letters
constraint_text = of_constraint lines

abbrev pub content_text : ContentConstraint → Letters
content_text = of_content lines

abbrev pub set_text : ElementOrSetOperation → Letters
set_text = of_set lines

abbrev pub parameter_text : Parameter → Letters
parameter_text = of_parameter lines

abbrev pub element_text : SubtypeElement → Letters
element_text = of_element lines

abbrev pub field_text : InformationObjectField → Letters
field_text = of_field lines

abbrev pub fields_text : InformationObjectFields → Letters
fields_text = of_fields lines

abbrev pub item_text : SyntaxApplication → Letters
item_text = of_item lines

abbrev pub type_text : ASN1Type → Letters
type_text = of_type lines

abbrev pub value_text : ASN1Value → Letters
value_text = of_value lines

abbrev pub operation_text : SetOperation → Letters
operation_text = of_operation lines

abbrev pub choice_text : Choice → Letters
choice_text = of_choice lines

abbrev pub option_text : ChoiceOption → Letters
option_text = of_option lines

abbrev pub struct_text : SequenceOrSet → Letters
struct_text = of_struct lines

abbrev pub member_text : SequenceOrSetMember → Letters
member_text = of_member lines

abbrev pub list_text : SequenceOrSetOf → Letters
list_text = of_list lines

abbrev pub linked_text : LinkedField → Letters
linked_text = of_linked lines

-- an item of a set of objects: a name, or an object
abbrev pub object_text : ObjectSetValueOver InformationObjectFields → Letters
object_text (Reference name) = name
object_text (Inline fields) = fields_text fields

-- a component of WITH COMPONENTS
abbrev pub component_text : ConstrainedComponentOver Constraint → Letters
component_text c = listed_text c.identifier (map constraint_text c.constraints) c.presence

-- the items of a set of objects in braces, with the extension marker at its place
abbrev pub objects_text : Option ℕ → List (ObjectSetValueOver InformationObjectFields) → Letters
objects_text marker items = codes "{" ++ set_items marker 0 (map object_text items) ++ codes "}"
