-- Rewriting of trees from their parts upwards: a reading that gives of each tree a tree of its type.
use Rattle.std.specs.Prelude.{◌≡◌}
use Rattle.asn_tree.specs.declared.constraints.Constraint.{Constraint, out-Constraint, roll-Constraint}
use Rattle.asn_tree.specs.declared.constraints.ContentConstraint.{ContentConstraint, roll-ContentConstraint}
use Rattle.asn_tree.specs.declared.constraints.ElementOrSetOperation.{ElementOrSetOperation, out-ElementOrSetOperation, roll-ElementOrSetOperation}
use Rattle.asn_tree.specs.declared.constraints.Parameter.{Parameter, out-Parameter, roll-Parameter}
use Rattle.asn_tree.specs.declared.constraints.SubtypeElement.{SubtypeElement, out-SubtypeElement, roll-SubtypeElement}
use Rattle.asn_tree.specs.declared.objects.InformationObjectField.{InformationObjectField, out-InformationObjectField, roll-InformationObjectField}
use Rattle.asn_tree.specs.declared.objects.InformationObjectFields.{InformationObjectFields, out-InformationObjectFields, roll-InformationObjectFields}
use Rattle.asn_tree.specs.declared.objects.SyntaxApplication.{SyntaxApplication, out-SyntaxApplication, roll-SyntaxApplication}
use Rattle.asn_tree.specs.declared.types.ASN1Type.{ASN1Type, out-ASN1Type, roll-ASN1Type}
use Rattle.asn_tree.specs.declared.values.ASN1Value.{ASN1Value, out-ASN1Value, roll-ASN1Value}
use Rattle.asn_tree.specs.declared.constraints.SetOperation.{SetOperation, out-SetOperation, roll-SetOperation}
use Rattle.asn_tree.specs.declared.types.Choice.{Choice, out-Choice, roll-Choice}
use Rattle.asn_tree.specs.declared.types.ChoiceOption.{ChoiceOption, out-ChoiceOption, roll-ChoiceOption}
use Rattle.asn_tree.specs.declared.types.SequenceOrSet.{SequenceOrSet, out-SequenceOrSet, roll-SequenceOrSet}
use Rattle.asn_tree.specs.declared.types.SequenceOrSetMember.{SequenceOrSetMember, out-SequenceOrSetMember, roll-SequenceOrSetMember}
use Rattle.asn_tree.specs.declared.types.SequenceOrSetOf.{SequenceOrSetOf, out-SequenceOrSetOf, roll-SequenceOrSetOf}
use Rattle.asn_tree.specs.declared.values.LinkedField.{LinkedField, out-LinkedField, roll-LinkedField}
use Rattle.asn_tree.specs.Folds.{Steps, of_constraint, constraint_read, constraint_is, of_content, of_set, set_read, set_is, of_parameter, parameter_read, parameter_is, of_element, element_read, element_is, of_field, field_read, field_is, of_fields, fields_read, fields_is, of_item, item_read, item_is, of_type, type_read, type_is, of_value, value_read, value_is, of_operation, operation_read, operation_is, of_choice, choice_read, choice_is, of_option, option_read, option_is, of_struct, struct_read, struct_is, of_member, member_read, member_is, of_list, list_read, list_is, of_linked, linked_read, linked_is}
use Rattle.asn_tree.specs.Layers.{trees, ConstraintLayer, SetLayer, ParameterLayer, ElementLayer, FieldLayer, FieldsLayer, ItemLayer, TypeLayer, ValueLayer, OperationLayer, ChoiceLayer, OptionLayer, StructLayer, MemberLayer, ListLayer, LinkedLayer}

-- the steps of such a rewriting
abbrev pub Pass : Type 0
Pass = Steps trees

-- the steps that change nothing, of which a rewriting changes some
abbrev pub unchanged : Pass
unchanged =
    record {
      at_constraint = roll-Constraint;
      at_content = roll-ContentConstraint;
      at_set = roll-ElementOrSetOperation;
      at_parameter = roll-Parameter;
      at_element = roll-SubtypeElement;
      at_field = roll-InformationObjectField;
      at_fields = roll-InformationObjectFields;
      at_item = roll-SyntaxApplication;
      at_type = roll-ASN1Type;
      at_value = roll-ASN1Value;
      at_operation = roll-SetOperation;
      at_choice = roll-Choice;
      at_option = roll-ChoiceOption;
      at_struct = roll-SequenceOrSet;
      at_member = roll-SequenceOrSetMember;
      at_list = roll-SequenceOrSetOf;
      at_linked = roll-LinkedField;
    }

module _ (p : Pass) where
  abbrev pub rewritten_constraint : Constraint → Constraint
  rewritten_constraint = of_constraint p

  abbrev pub rewritten_content : ContentConstraint → ContentConstraint
  rewritten_content = of_content p

  abbrev pub rewritten_set : ElementOrSetOperation → ElementOrSetOperation
  rewritten_set = of_set p

  abbrev pub rewritten_parameter : Parameter → Parameter
  rewritten_parameter = of_parameter p

  abbrev pub rewritten_element : SubtypeElement → SubtypeElement
  rewritten_element = of_element p

  abbrev pub rewritten_field : InformationObjectField → InformationObjectField
  rewritten_field = of_field p

  abbrev pub rewritten_fields : InformationObjectFields → InformationObjectFields
  rewritten_fields = of_fields p

  abbrev pub rewritten_item : SyntaxApplication → SyntaxApplication
  rewritten_item = of_item p

  abbrev pub rewritten_type : ASN1Type → ASN1Type
  rewritten_type = of_type p

  abbrev pub rewritten_value : ASN1Value → ASN1Value
  rewritten_value = of_value p

  abbrev pub rewritten_operation : SetOperation → SetOperation
  rewritten_operation = of_operation p

  abbrev pub rewritten_choice : Choice → Choice
  rewritten_choice = of_choice p

  abbrev pub rewritten_option : ChoiceOption → ChoiceOption
  rewritten_option = of_option p

  abbrev pub rewritten_struct : SequenceOrSet → SequenceOrSet
  rewritten_struct = of_struct p

  abbrev pub rewritten_member : SequenceOrSetMember → SequenceOrSetMember
  rewritten_member = of_member p

  abbrev pub rewritten_list : SequenceOrSetOf → SequenceOrSetOf
  rewritten_list = of_list p

  abbrev pub rewritten_linked : LinkedField → LinkedField
  rewritten_linked = of_linked p

  abbrev pub constraint_parts : ConstraintLayer → ConstraintLayer
  constraint_parts = constraint_read p

  pub constraint_rewritten : (x : Constraint) → rewritten_constraint x ≡ p.at_constraint (constraint_parts (out-Constraint x))
  constraint_rewritten x = constraint_is p x

  abbrev pub set_parts : SetLayer → SetLayer
  set_parts = set_read p

  pub set_rewritten : (x : ElementOrSetOperation) → rewritten_set x ≡ p.at_set (set_parts (out-ElementOrSetOperation x))
  set_rewritten x = set_is p x

  abbrev pub parameter_parts : ParameterLayer → ParameterLayer
  parameter_parts = parameter_read p

  pub parameter_rewritten : (x : Parameter) → rewritten_parameter x ≡ p.at_parameter (parameter_parts (out-Parameter x))
  parameter_rewritten x = parameter_is p x

  abbrev pub element_parts : ElementLayer → ElementLayer
  element_parts = element_read p

  pub element_rewritten : (x : SubtypeElement) → rewritten_element x ≡ p.at_element (element_parts (out-SubtypeElement x))
  element_rewritten x = element_is p x

  abbrev pub field_parts : FieldLayer → FieldLayer
  field_parts = field_read p

  pub field_rewritten : (x : InformationObjectField) → rewritten_field x ≡ p.at_field (field_parts (out-InformationObjectField x))
  field_rewritten x = field_is p x

  abbrev pub fields_parts : FieldsLayer → FieldsLayer
  fields_parts = fields_read p

  pub fields_rewritten : (x : InformationObjectFields) → rewritten_fields x ≡ p.at_fields (fields_parts (out-InformationObjectFields x))
  fields_rewritten x = fields_is p x

  abbrev pub item_parts : ItemLayer → ItemLayer
  item_parts = item_read p

  pub item_rewritten : (x : SyntaxApplication) → rewritten_item x ≡ p.at_item (item_parts (out-SyntaxApplication x))
  item_rewritten x = item_is p x

  abbrev pub type_parts : TypeLayer → TypeLayer
  type_parts = type_read p

  pub type_rewritten : (x : ASN1Type) → rewritten_type x ≡ p.at_type (type_parts (out-ASN1Type x))
  type_rewritten x = type_is p x

  abbrev pub value_parts : ValueLayer → ValueLayer
  value_parts = value_read p

  pub value_rewritten : (x : ASN1Value) → rewritten_value x ≡ p.at_value (value_parts (out-ASN1Value x))
  value_rewritten x = value_is p x

  abbrev pub operation_parts : OperationLayer → OperationLayer
  operation_parts = operation_read p

  pub operation_rewritten : (x : SetOperation) → rewritten_operation x ≡ p.at_operation (operation_parts (out-SetOperation x))
  operation_rewritten x = operation_is p x

  abbrev pub choice_parts : ChoiceLayer → ChoiceLayer
  choice_parts = choice_read p

  pub choice_rewritten : (x : Choice) → rewritten_choice x ≡ p.at_choice (choice_parts (out-Choice x))
  choice_rewritten x = choice_is p x

  abbrev pub option_parts : OptionLayer → OptionLayer
  option_parts = option_read p

  pub option_rewritten : (x : ChoiceOption) → rewritten_option x ≡ p.at_option (option_parts (out-ChoiceOption x))
  option_rewritten x = option_is p x

  abbrev pub struct_parts : StructLayer → StructLayer
  struct_parts = struct_read p

  pub struct_rewritten : (x : SequenceOrSet) → rewritten_struct x ≡ p.at_struct (struct_parts (out-SequenceOrSet x))
  struct_rewritten x = struct_is p x

  abbrev pub member_parts : MemberLayer → MemberLayer
  member_parts = member_read p

  pub member_rewritten : (x : SequenceOrSetMember) → rewritten_member x ≡ p.at_member (member_parts (out-SequenceOrSetMember x))
  member_rewritten x = member_is p x

  abbrev pub list_parts : ListLayer → ListLayer
  list_parts = list_read p

  pub list_rewritten : (x : SequenceOrSetOf) → rewritten_list x ≡ p.at_list (list_parts (out-SequenceOrSetOf x))
  list_rewritten x = list_is p x

  abbrev pub linked_parts : LinkedLayer → LinkedLayer
  linked_parts = linked_read p

  pub linked_rewritten : (x : LinkedField) → rewritten_linked x ≡ p.at_linked (linked_parts (out-LinkedField x))
  linked_rewritten x = linked_is p x
