-- One level of each type of tree, as `out-X` opens it, and what may stand in the places of its parts.
use Rattle.asn_tree.specs.declared.constraints.Constraint.{Constraint, Constraint-F}
use Rattle.asn_tree.specs.declared.constraints.ContentConstraint.{ContentConstraint, ContentConstraint-F}
use Rattle.asn_tree.specs.declared.constraints.ElementOrSetOperation.{ElementOrSetOperation, ElementOrSetOperation-F}
use Rattle.asn_tree.specs.declared.constraints.Parameter.{Parameter, Parameter-F}
use Rattle.asn_tree.specs.declared.constraints.SubtypeElement.{SubtypeElement, SubtypeElement-F}
use Rattle.asn_tree.specs.declared.objects.InformationObjectField.{InformationObjectField, InformationObjectField-F}
use Rattle.asn_tree.specs.declared.objects.InformationObjectFields.{InformationObjectFields, InformationObjectFields-F}
use Rattle.asn_tree.specs.declared.objects.SyntaxApplication.{SyntaxApplication, SyntaxApplication-F}
use Rattle.asn_tree.specs.declared.types.ASN1Type.{ASN1Type, ASN1Type-F}
use Rattle.asn_tree.specs.declared.values.ASN1Value.{ASN1Value, ASN1Value-F}
use Rattle.asn_tree.specs.declared.constraints.SetOperation.{SetOperation, SetOperation-F}
use Rattle.asn_tree.specs.declared.types.Choice.{Choice, Choice-F}
use Rattle.asn_tree.specs.declared.types.ChoiceOption.{ChoiceOption, ChoiceOption-F}
use Rattle.asn_tree.specs.declared.types.SequenceOrSet.{SequenceOrSet, SequenceOrSet-F}
use Rattle.asn_tree.specs.declared.types.SequenceOrSetMember.{SequenceOrSetMember, SequenceOrSetMember-F}
use Rattle.asn_tree.specs.declared.types.SequenceOrSetOf.{SequenceOrSetOf, SequenceOrSetOf-F}
use Rattle.asn_tree.specs.declared.values.LinkedField.{LinkedField, LinkedField-F}

-- what stands in the place of each type of tree
pub record Carriers : Type 1 where
  pub for_constraint : Type 0
  pub for_content : Type 0
  pub for_set : Type 0
  pub for_parameter : Type 0
  pub for_element : Type 0
  pub for_field : Type 0
  pub for_fields : Type 0
  pub for_item : Type 0
  pub for_type : Type 0
  pub for_value : Type 0
  pub for_operation : Type 0
  pub for_choice : Type 0
  pub for_option : Type 0
  pub for_struct : Type 0
  pub for_member : Type 0
  pub for_list : Type 0
  pub for_linked : Type 0

abbrev pub ConstraintOver : Carriers → Type 0
ConstraintOver c =
    Constraint-F c.for_constraint c.for_content c.for_set c.for_parameter c.for_element c.for_field
    c.for_fields c.for_item c.for_type c.for_value c.for_operation c.for_choice c.for_option c.for_struct c.for_member
    c.for_list c.for_linked

abbrev pub ContentOver : Carriers → Type 0
ContentOver c =
    ContentConstraint-F c.for_constraint c.for_content c.for_set c.for_parameter c.for_element
    c.for_field c.for_fields c.for_item c.for_type c.for_value c.for_operation c.for_choice c.for_option c.for_struct
    c.for_member c.for_list c.for_linked

abbrev pub SetOver : Carriers → Type 0
SetOver c =
    ElementOrSetOperation-F c.for_constraint c.for_content c.for_set c.for_parameter c.for_element
    c.for_field c.for_fields c.for_item c.for_type c.for_value c.for_operation c.for_choice c.for_option c.for_struct
    c.for_member c.for_list c.for_linked

abbrev pub ParameterOver : Carriers → Type 0
ParameterOver c =
    Parameter-F c.for_constraint c.for_content c.for_set c.for_parameter c.for_element c.for_field
    c.for_fields c.for_item c.for_type c.for_value c.for_operation c.for_choice c.for_option c.for_struct c.for_member
    c.for_list c.for_linked

abbrev pub ElementOver : Carriers → Type 0
ElementOver c =
    SubtypeElement-F c.for_constraint c.for_content c.for_set c.for_parameter c.for_element
    c.for_field c.for_fields c.for_item c.for_type c.for_value c.for_operation c.for_choice c.for_option c.for_struct
    c.for_member c.for_list c.for_linked

abbrev pub FieldOver : Carriers → Type 0
FieldOver c =
    InformationObjectField-F c.for_constraint c.for_content c.for_set c.for_parameter c.for_element
    c.for_field c.for_fields c.for_item c.for_type c.for_value c.for_operation c.for_choice c.for_option c.for_struct
    c.for_member c.for_list c.for_linked

abbrev pub FieldsOver : Carriers → Type 0
FieldsOver c =
    InformationObjectFields-F c.for_constraint c.for_content c.for_set c.for_parameter c.for_element
    c.for_field c.for_fields c.for_item c.for_type c.for_value c.for_operation c.for_choice c.for_option c.for_struct
    c.for_member c.for_list c.for_linked

abbrev pub ItemOver : Carriers → Type 0
ItemOver c =
    SyntaxApplication-F c.for_constraint c.for_content c.for_set c.for_parameter c.for_element
    c.for_field c.for_fields c.for_item c.for_type c.for_value c.for_operation c.for_choice c.for_option c.for_struct
    c.for_member c.for_list c.for_linked

abbrev pub TypeOver : Carriers → Type 0
TypeOver c =
    ASN1Type-F c.for_constraint c.for_content c.for_set c.for_parameter c.for_element c.for_field
    c.for_fields c.for_item c.for_type c.for_value c.for_operation c.for_choice c.for_option c.for_struct c.for_member
    c.for_list c.for_linked

abbrev pub ValueOver : Carriers → Type 0
ValueOver c =
    ASN1Value-F c.for_constraint c.for_content c.for_set c.for_parameter c.for_element c.for_field
    c.for_fields c.for_item c.for_type c.for_value c.for_operation c.for_choice c.for_option c.for_struct c.for_member
    c.for_list c.for_linked

abbrev pub OperationOver : Carriers → Type 0
OperationOver c =
    SetOperation-F c.for_constraint c.for_content c.for_set c.for_parameter c.for_element
    c.for_field c.for_fields c.for_item c.for_type c.for_value c.for_operation c.for_choice c.for_option c.for_struct
    c.for_member c.for_list c.for_linked

abbrev pub ChoiceOver : Carriers → Type 0
ChoiceOver c =
    Choice-F c.for_constraint c.for_content c.for_set c.for_parameter c.for_element c.for_field
    c.for_fields c.for_item c.for_type c.for_value c.for_operation c.for_choice c.for_option c.for_struct c.for_member
    c.for_list c.for_linked

abbrev pub OptionOver : Carriers → Type 0
OptionOver c =
    ChoiceOption-F c.for_constraint c.for_content c.for_set c.for_parameter c.for_element c.for_field
    c.for_fields c.for_item c.for_type c.for_value c.for_operation c.for_choice c.for_option c.for_struct c.for_member
    c.for_list c.for_linked

abbrev pub StructOver : Carriers → Type 0
StructOver c =
    SequenceOrSet-F c.for_constraint c.for_content c.for_set c.for_parameter c.for_element c.for_field
    c.for_fields c.for_item c.for_type c.for_value c.for_operation c.for_choice c.for_option c.for_struct c.for_member
    c.for_list c.for_linked

abbrev pub MemberOver : Carriers → Type 0
MemberOver c =
    SequenceOrSetMember-F c.for_constraint c.for_content c.for_set c.for_parameter c.for_element
    c.for_field c.for_fields c.for_item c.for_type c.for_value c.for_operation c.for_choice c.for_option c.for_struct
    c.for_member c.for_list c.for_linked

abbrev pub ListOver : Carriers → Type 0
ListOver c =
    SequenceOrSetOf-F c.for_constraint c.for_content c.for_set c.for_parameter c.for_element c.for_field
    c.for_fields c.for_item c.for_type c.for_value c.for_operation c.for_choice c.for_option c.for_struct c.for_member
    c.for_list c.for_linked

abbrev pub LinkedOver : Carriers → Type 0
LinkedOver c =
    LinkedField-F c.for_constraint c.for_content c.for_set c.for_parameter c.for_element c.for_field
    c.for_fields c.for_item c.for_type c.for_value c.for_operation c.for_choice c.for_option c.for_struct c.for_member
    c.for_list c.for_linked

-- the trees themselves
abbrev pub trees : Carriers
trees =
    record {
      for_constraint = Constraint;
      for_content = ContentConstraint;
      for_set = ElementOrSetOperation;
      for_parameter = Parameter;
      for_element = SubtypeElement;
      for_field = InformationObjectField;
      for_fields = InformationObjectFields;
      for_item = SyntaxApplication;
      for_type = ASN1Type;
      for_value = ASN1Value;
      for_operation = SetOperation;
      for_choice = Choice;
      for_option = ChoiceOption;
      for_struct = SequenceOrSet;
      for_member = SequenceOrSetMember;
      for_list = SequenceOrSetOf;
      for_linked = LinkedField;
    }

-- the same in every place
abbrev pub all : Type 0 → Carriers
all A =
    record {
      for_constraint = A;
      for_content = A;
      for_set = A;
      for_parameter = A;
      for_element = A;
      for_field = A;
      for_fields = A;
      for_item = A;
      for_type = A;
      for_value = A;
      for_operation = A;
      for_choice = A;
      for_option = A;
      for_struct = A;
      for_member = A;
      for_list = A;
      for_linked = A;
    }

abbrev pub ConstraintLayer : Type 0
ConstraintLayer = ConstraintOver trees

abbrev pub ContentLayer : Type 0
ContentLayer = ContentOver trees

abbrev pub SetLayer : Type 0
SetLayer = SetOver trees

abbrev pub ParameterLayer : Type 0
ParameterLayer = ParameterOver trees

abbrev pub ElementLayer : Type 0
ElementLayer = ElementOver trees

abbrev pub FieldLayer : Type 0
FieldLayer = FieldOver trees

abbrev pub FieldsLayer : Type 0
FieldsLayer = FieldsOver trees

abbrev pub ItemLayer : Type 0
ItemLayer = ItemOver trees

abbrev pub TypeLayer : Type 0
TypeLayer = TypeOver trees

abbrev pub ValueLayer : Type 0
ValueLayer = ValueOver trees

abbrev pub OperationLayer : Type 0
OperationLayer = OperationOver trees

abbrev pub ChoiceLayer : Type 0
ChoiceLayer = ChoiceOver trees

abbrev pub OptionLayer : Type 0
OptionLayer = OptionOver trees

abbrev pub StructLayer : Type 0
StructLayer = StructOver trees

abbrev pub MemberLayer : Type 0
MemberLayer = MemberOver trees

abbrev pub ListLayer : Type 0
ListLayer = ListOver trees

abbrev pub LinkedLayer : Type 0
LinkedLayer = LinkedOver trees

abbrev pub ConstraintOf : Type 0 → Type 0
ConstraintOf A = ConstraintOver (all A)

abbrev pub ContentOf : Type 0 → Type 0
ContentOf A = ContentOver (all A)

abbrev pub SetOf : Type 0 → Type 0
SetOf A = SetOver (all A)

abbrev pub ParameterOf : Type 0 → Type 0
ParameterOf A = ParameterOver (all A)

abbrev pub ElementOf : Type 0 → Type 0
ElementOf A = ElementOver (all A)

abbrev pub FieldOf : Type 0 → Type 0
FieldOf A = FieldOver (all A)

abbrev pub FieldsOf : Type 0 → Type 0
FieldsOf A = FieldsOver (all A)

abbrev pub ItemOf : Type 0 → Type 0
ItemOf A = ItemOver (all A)

abbrev pub TypeOf : Type 0 → Type 0
TypeOf A = TypeOver (all A)

abbrev pub ValueOf : Type 0 → Type 0
ValueOf A = ValueOver (all A)

abbrev pub OperationOf : Type 0 → Type 0
OperationOf A = OperationOver (all A)

abbrev pub ChoiceOf : Type 0 → Type 0
ChoiceOf A = ChoiceOver (all A)

abbrev pub OptionOf : Type 0 → Type 0
OptionOf A = OptionOver (all A)

abbrev pub StructOf : Type 0 → Type 0
StructOf A = StructOver (all A)

abbrev pub MemberOf : Type 0 → Type 0
MemberOf A = MemberOver (all A)

abbrev pub ListOf : Type 0 → Type 0
ListOf A = ListOver (all A)

abbrev pub LinkedOf : Type 0 → Type 0
LinkedOf A = LinkedOver (all A)
