-- Readings of trees from their parts upwards: one step for each type of tree, over what its parts give.
use Rattle.std.specs.Prelude.{◌≡◌}
use Rattle.asn_tree.specs.declared.constraints.Constraint.{Constraint, out-Constraint, map-Constraint, fold-Constraint, fold_out-Constraint}
use Rattle.asn_tree.specs.declared.constraints.ContentConstraint.{ContentConstraint, out-ContentConstraint, map-ContentConstraint, fold-ContentConstraint, fold_out-ContentConstraint}
use Rattle.asn_tree.specs.declared.constraints.ElementOrSetOperation.{ElementOrSetOperation, out-ElementOrSetOperation, map-ElementOrSetOperation, fold-ElementOrSetOperation, fold_out-ElementOrSetOperation}
use Rattle.asn_tree.specs.declared.constraints.Parameter.{Parameter, out-Parameter, map-Parameter, fold-Parameter, fold_out-Parameter}
use Rattle.asn_tree.specs.declared.constraints.SubtypeElement.{SubtypeElement, out-SubtypeElement, map-SubtypeElement, fold-SubtypeElement, fold_out-SubtypeElement}
use Rattle.asn_tree.specs.declared.objects.InformationObjectField.{InformationObjectField, out-InformationObjectField, map-InformationObjectField, fold-InformationObjectField, fold_out-InformationObjectField}
use Rattle.asn_tree.specs.declared.objects.InformationObjectFields.{InformationObjectFields, out-InformationObjectFields, map-InformationObjectFields, fold-InformationObjectFields, fold_out-InformationObjectFields}
use Rattle.asn_tree.specs.declared.objects.SyntaxApplication.{SyntaxApplication, out-SyntaxApplication, map-SyntaxApplication, fold-SyntaxApplication, fold_out-SyntaxApplication}
use Rattle.asn_tree.specs.declared.types.ASN1Type.{ASN1Type, out-ASN1Type, map-ASN1Type, fold-ASN1Type, fold_out-ASN1Type}
use Rattle.asn_tree.specs.declared.values.ASN1Value.{ASN1Value, out-ASN1Value, map-ASN1Value, fold-ASN1Value, fold_out-ASN1Value}
use Rattle.asn_tree.specs.declared.constraints.SetOperation.{SetOperation, out-SetOperation, map-SetOperation, fold-SetOperation, fold_out-SetOperation}
use Rattle.asn_tree.specs.declared.types.Choice.{Choice, out-Choice, map-Choice, fold-Choice, fold_out-Choice}
use Rattle.asn_tree.specs.declared.types.ChoiceOption.{ChoiceOption, out-ChoiceOption, map-ChoiceOption, fold-ChoiceOption, fold_out-ChoiceOption}
use Rattle.asn_tree.specs.declared.types.SequenceOrSet.{SequenceOrSet, out-SequenceOrSet, map-SequenceOrSet, fold-SequenceOrSet, fold_out-SequenceOrSet}
use Rattle.asn_tree.specs.declared.types.SequenceOrSetMember.{SequenceOrSetMember, out-SequenceOrSetMember, map-SequenceOrSetMember, fold-SequenceOrSetMember, fold_out-SequenceOrSetMember}
use Rattle.asn_tree.specs.declared.types.SequenceOrSetOf.{SequenceOrSetOf, out-SequenceOrSetOf, map-SequenceOrSetOf, fold-SequenceOrSetOf, fold_out-SequenceOrSetOf}
use Rattle.asn_tree.specs.declared.values.LinkedField.{LinkedField, out-LinkedField, map-LinkedField, fold-LinkedField, fold_out-LinkedField}
use Rattle.asn_tree.specs.Layers.{Carriers, all, ConstraintOver, ConstraintLayer, ContentOver, ContentLayer, SetOver, SetLayer, ParameterOver, ParameterLayer, ElementOver, ElementLayer, FieldOver, FieldLayer, FieldsOver, FieldsLayer, ItemOver, ItemLayer, TypeOver, TypeLayer, ValueOver, ValueLayer, OperationOver, OperationLayer, ChoiceOver, ChoiceLayer, OptionOver, OptionLayer, StructOver, StructLayer, MemberOver, MemberLayer, ListOver, ListLayer, LinkedOver, LinkedLayer}

-- the steps of such a reading
pub record Steps (c : Carriers) : Type 0 where
  pub at_constraint : ConstraintOver c → c.for_constraint
  pub at_content : ContentOver c → c.for_content
  pub at_set : SetOver c → c.for_set
  pub at_parameter : ParameterOver c → c.for_parameter
  pub at_element : ElementOver c → c.for_element
  pub at_field : FieldOver c → c.for_field
  pub at_fields : FieldsOver c → c.for_fields
  pub at_item : ItemOver c → c.for_item
  pub at_type : TypeOver c → c.for_type
  pub at_value : ValueOver c → c.for_value
  pub at_operation : OperationOver c → c.for_operation
  pub at_choice : ChoiceOver c → c.for_choice
  pub at_option : OptionOver c → c.for_option
  pub at_struct : StructOver c → c.for_struct
  pub at_member : MemberOver c → c.for_member
  pub at_list : ListOver c → c.for_list
  pub at_linked : LinkedOver c → c.for_linked

-- the steps of a reading that gives the same kind of answer of every tree
abbrev pub Algebra : Type 0 → Type 0
Algebra A = Steps (all A)

-- the steps that give the same of every tree, to be changed where a type of tree gives something else
abbrev pub constant : {A : Type 0} → A → Algebra A
constant z =
    record {
      at_constraint = λ x. z;
      at_content = λ x. z;
      at_set = λ x. z;
      at_parameter = λ x. z;
      at_element = λ x. z;
      at_field = λ x. z;
      at_fields = λ x. z;
      at_item = λ x. z;
      at_type = λ x. z;
      at_value = λ x. z;
      at_operation = λ x. z;
      at_choice = λ x. z;
      at_option = λ x. z;
      at_struct = λ x. z;
      at_member = λ x. z;
      at_list = λ x. z;
      at_linked = λ x. z;
    }

module _ {c : Carriers} (s : Steps c) where
  abbrev pub of_constraint : Constraint → c.for_constraint
  of_constraint =
      fold-Constraint c.for_constraint c.for_content c.for_set c.for_parameter c.for_element
      c.for_field c.for_fields c.for_item c.for_type c.for_value c.for_operation c.for_choice c.for_option
      c.for_struct c.for_member c.for_list c.for_linked s.at_constraint s.at_content s.at_set s.at_parameter
      s.at_element s.at_field s.at_fields s.at_item s.at_type s.at_value s.at_operation s.at_choice s.at_option
      s.at_struct s.at_member s.at_list s.at_linked

  abbrev pub of_content : ContentConstraint → c.for_content
  of_content =
      fold-ContentConstraint c.for_constraint c.for_content c.for_set c.for_parameter c.for_element
      c.for_field c.for_fields c.for_item c.for_type c.for_value c.for_operation c.for_choice c.for_option
      c.for_struct c.for_member c.for_list c.for_linked s.at_constraint s.at_content s.at_set s.at_parameter
      s.at_element s.at_field s.at_fields s.at_item s.at_type s.at_value s.at_operation s.at_choice s.at_option
      s.at_struct s.at_member s.at_list s.at_linked

  abbrev pub of_set : ElementOrSetOperation → c.for_set
  of_set =
      fold-ElementOrSetOperation c.for_constraint c.for_content c.for_set c.for_parameter c.for_element
      c.for_field c.for_fields c.for_item c.for_type c.for_value c.for_operation c.for_choice c.for_option
      c.for_struct c.for_member c.for_list c.for_linked s.at_constraint s.at_content s.at_set s.at_parameter
      s.at_element s.at_field s.at_fields s.at_item s.at_type s.at_value s.at_operation s.at_choice s.at_option
      s.at_struct s.at_member s.at_list s.at_linked

  abbrev pub of_parameter : Parameter → c.for_parameter
  of_parameter =
      fold-Parameter c.for_constraint c.for_content c.for_set c.for_parameter c.for_element
      c.for_field c.for_fields c.for_item c.for_type c.for_value c.for_operation c.for_choice c.for_option
      c.for_struct c.for_member c.for_list c.for_linked s.at_constraint s.at_content s.at_set s.at_parameter
      s.at_element s.at_field s.at_fields s.at_item s.at_type s.at_value s.at_operation s.at_choice s.at_option
      s.at_struct s.at_member s.at_list s.at_linked

  abbrev pub of_element : SubtypeElement → c.for_element
  of_element =
      fold-SubtypeElement c.for_constraint c.for_content c.for_set c.for_parameter c.for_element
      c.for_field c.for_fields c.for_item c.for_type c.for_value c.for_operation c.for_choice c.for_option
      c.for_struct c.for_member c.for_list c.for_linked s.at_constraint s.at_content s.at_set s.at_parameter
      s.at_element s.at_field s.at_fields s.at_item s.at_type s.at_value s.at_operation s.at_choice s.at_option
      s.at_struct s.at_member s.at_list s.at_linked

  abbrev pub of_field : InformationObjectField → c.for_field
  of_field =
      fold-InformationObjectField c.for_constraint c.for_content c.for_set c.for_parameter c.for_element
      c.for_field c.for_fields c.for_item c.for_type c.for_value c.for_operation c.for_choice c.for_option
      c.for_struct c.for_member c.for_list c.for_linked s.at_constraint s.at_content s.at_set s.at_parameter
      s.at_element s.at_field s.at_fields s.at_item s.at_type s.at_value s.at_operation s.at_choice s.at_option
      s.at_struct s.at_member s.at_list s.at_linked

  abbrev pub of_fields : InformationObjectFields → c.for_fields
  of_fields =
      fold-InformationObjectFields c.for_constraint c.for_content c.for_set c.for_parameter
      c.for_element c.for_field c.for_fields c.for_item c.for_type c.for_value c.for_operation c.for_choice
      c.for_option c.for_struct c.for_member c.for_list c.for_linked s.at_constraint s.at_content s.at_set
      s.at_parameter s.at_element s.at_field s.at_fields s.at_item s.at_type s.at_value s.at_operation s.at_choice
      s.at_option s.at_struct s.at_member s.at_list s.at_linked

  abbrev pub of_item : SyntaxApplication → c.for_item
  of_item =
      fold-SyntaxApplication c.for_constraint c.for_content c.for_set c.for_parameter c.for_element
      c.for_field c.for_fields c.for_item c.for_type c.for_value c.for_operation c.for_choice c.for_option
      c.for_struct c.for_member c.for_list c.for_linked s.at_constraint s.at_content s.at_set s.at_parameter
      s.at_element s.at_field s.at_fields s.at_item s.at_type s.at_value s.at_operation s.at_choice s.at_option
      s.at_struct s.at_member s.at_list s.at_linked

  abbrev pub of_type : ASN1Type → c.for_type
  of_type =
      fold-ASN1Type c.for_constraint c.for_content c.for_set c.for_parameter c.for_element c.for_field
      c.for_fields c.for_item c.for_type c.for_value c.for_operation c.for_choice c.for_option c.for_struct
      c.for_member c.for_list c.for_linked s.at_constraint s.at_content s.at_set s.at_parameter s.at_element
      s.at_field s.at_fields s.at_item s.at_type s.at_value s.at_operation s.at_choice s.at_option s.at_struct
      s.at_member s.at_list s.at_linked

  abbrev pub of_value : ASN1Value → c.for_value
  of_value =
      fold-ASN1Value c.for_constraint c.for_content c.for_set c.for_parameter c.for_element c.for_field
      c.for_fields c.for_item c.for_type c.for_value c.for_operation c.for_choice c.for_option c.for_struct
      c.for_member c.for_list c.for_linked s.at_constraint s.at_content s.at_set s.at_parameter s.at_element
      s.at_field s.at_fields s.at_item s.at_type s.at_value s.at_operation s.at_choice s.at_option s.at_struct
      s.at_member s.at_list s.at_linked

  abbrev pub of_operation : SetOperation → c.for_operation
  of_operation =
      fold-SetOperation c.for_constraint c.for_content c.for_set c.for_parameter c.for_element
      c.for_field c.for_fields c.for_item c.for_type c.for_value c.for_operation c.for_choice c.for_option
      c.for_struct c.for_member c.for_list c.for_linked s.at_constraint s.at_content s.at_set s.at_parameter
      s.at_element s.at_field s.at_fields s.at_item s.at_type s.at_value s.at_operation s.at_choice s.at_option
      s.at_struct s.at_member s.at_list s.at_linked

  abbrev pub of_choice : Choice → c.for_choice
  of_choice =
      fold-Choice c.for_constraint c.for_content c.for_set c.for_parameter c.for_element c.for_field
      c.for_fields c.for_item c.for_type c.for_value c.for_operation c.for_choice c.for_option c.for_struct
      c.for_member c.for_list c.for_linked s.at_constraint s.at_content s.at_set s.at_parameter s.at_element
      s.at_field s.at_fields s.at_item s.at_type s.at_value s.at_operation s.at_choice s.at_option s.at_struct
      s.at_member s.at_list s.at_linked

  abbrev pub of_option : ChoiceOption → c.for_option
  of_option =
      fold-ChoiceOption c.for_constraint c.for_content c.for_set c.for_parameter c.for_element
      c.for_field c.for_fields c.for_item c.for_type c.for_value c.for_operation c.for_choice c.for_option
      c.for_struct c.for_member c.for_list c.for_linked s.at_constraint s.at_content s.at_set s.at_parameter
      s.at_element s.at_field s.at_fields s.at_item s.at_type s.at_value s.at_operation s.at_choice s.at_option
      s.at_struct s.at_member s.at_list s.at_linked

  abbrev pub of_struct : SequenceOrSet → c.for_struct
  of_struct =
      fold-SequenceOrSet c.for_constraint c.for_content c.for_set c.for_parameter c.for_element
      c.for_field c.for_fields c.for_item c.for_type c.for_value c.for_operation c.for_choice c.for_option
      c.for_struct c.for_member c.for_list c.for_linked s.at_constraint s.at_content s.at_set s.at_parameter
      s.at_element s.at_field s.at_fields s.at_item s.at_type s.at_value s.at_operation s.at_choice s.at_option
      s.at_struct s.at_member s.at_list s.at_linked

  abbrev pub of_member : SequenceOrSetMember → c.for_member
  of_member =
      fold-SequenceOrSetMember c.for_constraint c.for_content c.for_set c.for_parameter c.for_element
      c.for_field c.for_fields c.for_item c.for_type c.for_value c.for_operation c.for_choice c.for_option
      c.for_struct c.for_member c.for_list c.for_linked s.at_constraint s.at_content s.at_set s.at_parameter
      s.at_element s.at_field s.at_fields s.at_item s.at_type s.at_value s.at_operation s.at_choice s.at_option
      s.at_struct s.at_member s.at_list s.at_linked

  abbrev pub of_list : SequenceOrSetOf → c.for_list
  of_list =
      fold-SequenceOrSetOf c.for_constraint c.for_content c.for_set c.for_parameter c.for_element
      c.for_field c.for_fields c.for_item c.for_type c.for_value c.for_operation c.for_choice c.for_option
      c.for_struct c.for_member c.for_list c.for_linked s.at_constraint s.at_content s.at_set s.at_parameter
      s.at_element s.at_field s.at_fields s.at_item s.at_type s.at_value s.at_operation s.at_choice s.at_option
      s.at_struct s.at_member s.at_list s.at_linked

  abbrev pub of_linked : LinkedField → c.for_linked
  of_linked =
      fold-LinkedField c.for_constraint c.for_content c.for_set c.for_parameter c.for_element
      c.for_field c.for_fields c.for_item c.for_type c.for_value c.for_operation c.for_choice c.for_option
      c.for_struct c.for_member c.for_list c.for_linked s.at_constraint s.at_content s.at_set s.at_parameter
      s.at_element s.at_field s.at_fields s.at_item s.at_type s.at_value s.at_operation s.at_choice s.at_option
      s.at_struct s.at_member s.at_list s.at_linked

  -- one level, with what its parts give in their places
  abbrev pub constraint_read : ConstraintLayer → ConstraintOver c
  constraint_read =
      map-Constraint Constraint ContentConstraint ElementOrSetOperation Parameter SubtypeElement
      InformationObjectField InformationObjectFields SyntaxApplication ASN1Type ASN1Value SetOperation Choice
      ChoiceOption SequenceOrSet SequenceOrSetMember SequenceOrSetOf LinkedField c.for_constraint c.for_content
      c.for_set c.for_parameter c.for_element c.for_field c.for_fields c.for_item c.for_type c.for_value
      c.for_operation c.for_choice c.for_option c.for_struct c.for_member c.for_list c.for_linked of_constraint
      of_content of_set of_parameter of_element of_field of_fields of_item of_type of_value of_operation of_choice
      of_option of_struct of_member of_list of_linked

  pub constraint_is : (x : Constraint) → of_constraint x ≡ s.at_constraint (constraint_read (out-Constraint x))
  constraint_is x =
      fold_out-Constraint c.for_constraint c.for_content c.for_set c.for_parameter c.for_element
      c.for_field c.for_fields c.for_item c.for_type c.for_value c.for_operation c.for_choice c.for_option
      c.for_struct c.for_member c.for_list c.for_linked s.at_constraint s.at_content s.at_set s.at_parameter
      s.at_element s.at_field s.at_fields s.at_item s.at_type s.at_value s.at_operation s.at_choice s.at_option
      s.at_struct s.at_member s.at_list s.at_linked x

  -- one level, with what its parts give in their places
  abbrev pub content_read : ContentLayer → ContentOver c
  content_read =
      map-ContentConstraint Constraint ContentConstraint ElementOrSetOperation Parameter
      SubtypeElement InformationObjectField InformationObjectFields SyntaxApplication ASN1Type ASN1Value SetOperation
      Choice ChoiceOption SequenceOrSet SequenceOrSetMember SequenceOrSetOf LinkedField c.for_constraint c.for_content
      c.for_set c.for_parameter c.for_element c.for_field c.for_fields c.for_item c.for_type c.for_value
      c.for_operation c.for_choice c.for_option c.for_struct c.for_member c.for_list c.for_linked of_constraint
      of_content of_set of_parameter of_element of_field of_fields of_item of_type of_value of_operation of_choice
      of_option of_struct of_member of_list of_linked

  -- one level, with what its parts give in their places
  abbrev pub set_read : SetLayer → SetOver c
  set_read =
      map-ElementOrSetOperation Constraint ContentConstraint ElementOrSetOperation Parameter
      SubtypeElement InformationObjectField InformationObjectFields SyntaxApplication ASN1Type ASN1Value SetOperation
      Choice ChoiceOption SequenceOrSet SequenceOrSetMember SequenceOrSetOf LinkedField c.for_constraint c.for_content
      c.for_set c.for_parameter c.for_element c.for_field c.for_fields c.for_item c.for_type c.for_value
      c.for_operation c.for_choice c.for_option c.for_struct c.for_member c.for_list c.for_linked of_constraint
      of_content of_set of_parameter of_element of_field of_fields of_item of_type of_value of_operation of_choice
      of_option of_struct of_member of_list of_linked

  pub set_is : (x : ElementOrSetOperation) → of_set x ≡ s.at_set (set_read (out-ElementOrSetOperation x))
  set_is x =
      fold_out-ElementOrSetOperation c.for_constraint c.for_content c.for_set c.for_parameter
      c.for_element c.for_field c.for_fields c.for_item c.for_type c.for_value c.for_operation c.for_choice
      c.for_option c.for_struct c.for_member c.for_list c.for_linked s.at_constraint s.at_content s.at_set
      s.at_parameter s.at_element s.at_field s.at_fields s.at_item s.at_type s.at_value s.at_operation s.at_choice
      s.at_option s.at_struct s.at_member s.at_list s.at_linked x

  -- one level, with what its parts give in their places
  abbrev pub parameter_read : ParameterLayer → ParameterOver c
  parameter_read =
      map-Parameter Constraint ContentConstraint ElementOrSetOperation Parameter SubtypeElement
      InformationObjectField InformationObjectFields SyntaxApplication ASN1Type ASN1Value SetOperation Choice
      ChoiceOption SequenceOrSet SequenceOrSetMember SequenceOrSetOf LinkedField c.for_constraint c.for_content
      c.for_set c.for_parameter c.for_element c.for_field c.for_fields c.for_item c.for_type c.for_value
      c.for_operation c.for_choice c.for_option c.for_struct c.for_member c.for_list c.for_linked of_constraint
      of_content of_set of_parameter of_element of_field of_fields of_item of_type of_value of_operation of_choice
      of_option of_struct of_member of_list of_linked

  pub parameter_is : (x : Parameter) → of_parameter x ≡ s.at_parameter (parameter_read (out-Parameter x))
  parameter_is x =
      fold_out-Parameter c.for_constraint c.for_content c.for_set c.for_parameter c.for_element
      c.for_field c.for_fields c.for_item c.for_type c.for_value c.for_operation c.for_choice c.for_option
      c.for_struct c.for_member c.for_list c.for_linked s.at_constraint s.at_content s.at_set s.at_parameter
      s.at_element s.at_field s.at_fields s.at_item s.at_type s.at_value s.at_operation s.at_choice s.at_option
      s.at_struct s.at_member s.at_list s.at_linked x

  -- one level, with what its parts give in their places
  abbrev pub element_read : ElementLayer → ElementOver c
  element_read =
      map-SubtypeElement Constraint ContentConstraint ElementOrSetOperation Parameter SubtypeElement
      InformationObjectField InformationObjectFields SyntaxApplication ASN1Type ASN1Value SetOperation Choice
      ChoiceOption SequenceOrSet SequenceOrSetMember SequenceOrSetOf LinkedField c.for_constraint c.for_content
      c.for_set c.for_parameter c.for_element c.for_field c.for_fields c.for_item c.for_type c.for_value
      c.for_operation c.for_choice c.for_option c.for_struct c.for_member c.for_list c.for_linked of_constraint
      of_content of_set of_parameter of_element of_field of_fields of_item of_type of_value of_operation of_choice
      of_option of_struct of_member of_list of_linked

  pub element_is : (x : SubtypeElement) → of_element x ≡ s.at_element (element_read (out-SubtypeElement x))
  element_is x =
      fold_out-SubtypeElement c.for_constraint c.for_content c.for_set c.for_parameter c.for_element
      c.for_field c.for_fields c.for_item c.for_type c.for_value c.for_operation c.for_choice c.for_option
      c.for_struct c.for_member c.for_list c.for_linked s.at_constraint s.at_content s.at_set s.at_parameter
      s.at_element s.at_field s.at_fields s.at_item s.at_type s.at_value s.at_operation s.at_choice s.at_option
      s.at_struct s.at_member s.at_list s.at_linked x

  -- one level, with what its parts give in their places
  abbrev pub field_read : FieldLayer → FieldOver c
  field_read =
      map-InformationObjectField Constraint ContentConstraint ElementOrSetOperation Parameter
      SubtypeElement InformationObjectField InformationObjectFields SyntaxApplication ASN1Type ASN1Value SetOperation
      Choice ChoiceOption SequenceOrSet SequenceOrSetMember SequenceOrSetOf LinkedField c.for_constraint c.for_content
      c.for_set c.for_parameter c.for_element c.for_field c.for_fields c.for_item c.for_type c.for_value
      c.for_operation c.for_choice c.for_option c.for_struct c.for_member c.for_list c.for_linked of_constraint
      of_content of_set of_parameter of_element of_field of_fields of_item of_type of_value of_operation of_choice
      of_option of_struct of_member of_list of_linked

  pub field_is : (x : InformationObjectField) → of_field x ≡ s.at_field (field_read (out-InformationObjectField x))
  field_is x =
      fold_out-InformationObjectField c.for_constraint c.for_content c.for_set c.for_parameter
      c.for_element c.for_field c.for_fields c.for_item c.for_type c.for_value c.for_operation c.for_choice
      c.for_option c.for_struct c.for_member c.for_list c.for_linked s.at_constraint s.at_content s.at_set
      s.at_parameter s.at_element s.at_field s.at_fields s.at_item s.at_type s.at_value s.at_operation s.at_choice
      s.at_option s.at_struct s.at_member s.at_list s.at_linked x

  -- one level, with what its parts give in their places
  abbrev pub fields_read : FieldsLayer → FieldsOver c
  fields_read =
      map-InformationObjectFields Constraint ContentConstraint ElementOrSetOperation Parameter
      SubtypeElement InformationObjectField InformationObjectFields SyntaxApplication ASN1Type ASN1Value SetOperation
      Choice ChoiceOption SequenceOrSet SequenceOrSetMember SequenceOrSetOf LinkedField c.for_constraint c.for_content
      c.for_set c.for_parameter c.for_element c.for_field c.for_fields c.for_item c.for_type c.for_value
      c.for_operation c.for_choice c.for_option c.for_struct c.for_member c.for_list c.for_linked of_constraint
      of_content of_set of_parameter of_element of_field of_fields of_item of_type of_value of_operation of_choice
      of_option of_struct of_member of_list of_linked

  pub fields_is : (x : InformationObjectFields) → of_fields x ≡ s.at_fields (fields_read (out-InformationObjectFields x))
  fields_is x =
      fold_out-InformationObjectFields c.for_constraint c.for_content c.for_set c.for_parameter
      c.for_element c.for_field c.for_fields c.for_item c.for_type c.for_value c.for_operation c.for_choice
      c.for_option c.for_struct c.for_member c.for_list c.for_linked s.at_constraint s.at_content s.at_set
      s.at_parameter s.at_element s.at_field s.at_fields s.at_item s.at_type s.at_value s.at_operation s.at_choice
      s.at_option s.at_struct s.at_member s.at_list s.at_linked x

  -- one level, with what its parts give in their places
  abbrev pub item_read : ItemLayer → ItemOver c
  item_read =
      map-SyntaxApplication Constraint ContentConstraint ElementOrSetOperation Parameter SubtypeElement
      InformationObjectField InformationObjectFields SyntaxApplication ASN1Type ASN1Value SetOperation Choice
      ChoiceOption SequenceOrSet SequenceOrSetMember SequenceOrSetOf LinkedField c.for_constraint c.for_content
      c.for_set c.for_parameter c.for_element c.for_field c.for_fields c.for_item c.for_type c.for_value
      c.for_operation c.for_choice c.for_option c.for_struct c.for_member c.for_list c.for_linked of_constraint
      of_content of_set of_parameter of_element of_field of_fields of_item of_type of_value of_operation of_choice
      of_option of_struct of_member of_list of_linked

  pub item_is : (x : SyntaxApplication) → of_item x ≡ s.at_item (item_read (out-SyntaxApplication x))
  item_is x =
      fold_out-SyntaxApplication c.for_constraint c.for_content c.for_set c.for_parameter c.for_element
      c.for_field c.for_fields c.for_item c.for_type c.for_value c.for_operation c.for_choice c.for_option
      c.for_struct c.for_member c.for_list c.for_linked s.at_constraint s.at_content s.at_set s.at_parameter
      s.at_element s.at_field s.at_fields s.at_item s.at_type s.at_value s.at_operation s.at_choice s.at_option
      s.at_struct s.at_member s.at_list s.at_linked x

  -- one level, with what its parts give in their places
  abbrev pub type_read : TypeLayer → TypeOver c
  type_read =
      map-ASN1Type Constraint ContentConstraint ElementOrSetOperation Parameter SubtypeElement
      InformationObjectField InformationObjectFields SyntaxApplication ASN1Type ASN1Value SetOperation Choice
      ChoiceOption SequenceOrSet SequenceOrSetMember SequenceOrSetOf LinkedField c.for_constraint c.for_content
      c.for_set c.for_parameter c.for_element c.for_field c.for_fields c.for_item c.for_type c.for_value
      c.for_operation c.for_choice c.for_option c.for_struct c.for_member c.for_list c.for_linked of_constraint
      of_content of_set of_parameter of_element of_field of_fields of_item of_type of_value of_operation of_choice
      of_option of_struct of_member of_list of_linked

  pub type_is : (x : ASN1Type) → of_type x ≡ s.at_type (type_read (out-ASN1Type x))
  type_is x =
      fold_out-ASN1Type c.for_constraint c.for_content c.for_set c.for_parameter c.for_element
      c.for_field c.for_fields c.for_item c.for_type c.for_value c.for_operation c.for_choice c.for_option
      c.for_struct c.for_member c.for_list c.for_linked s.at_constraint s.at_content s.at_set s.at_parameter
      s.at_element s.at_field s.at_fields s.at_item s.at_type s.at_value s.at_operation s.at_choice s.at_option
      s.at_struct s.at_member s.at_list s.at_linked x

  -- one level, with what its parts give in their places
  abbrev pub value_read : ValueLayer → ValueOver c
  value_read =
      map-ASN1Value Constraint ContentConstraint ElementOrSetOperation Parameter SubtypeElement
      InformationObjectField InformationObjectFields SyntaxApplication ASN1Type ASN1Value SetOperation Choice
      ChoiceOption SequenceOrSet SequenceOrSetMember SequenceOrSetOf LinkedField c.for_constraint c.for_content
      c.for_set c.for_parameter c.for_element c.for_field c.for_fields c.for_item c.for_type c.for_value
      c.for_operation c.for_choice c.for_option c.for_struct c.for_member c.for_list c.for_linked of_constraint
      of_content of_set of_parameter of_element of_field of_fields of_item of_type of_value of_operation of_choice
      of_option of_struct of_member of_list of_linked

  pub value_is : (x : ASN1Value) → of_value x ≡ s.at_value (value_read (out-ASN1Value x))
  value_is x =
      fold_out-ASN1Value c.for_constraint c.for_content c.for_set c.for_parameter c.for_element
      c.for_field c.for_fields c.for_item c.for_type c.for_value c.for_operation c.for_choice c.for_option
      c.for_struct c.for_member c.for_list c.for_linked s.at_constraint s.at_content s.at_set s.at_parameter
      s.at_element s.at_field s.at_fields s.at_item s.at_type s.at_value s.at_operation s.at_choice s.at_option
      s.at_struct s.at_member s.at_list s.at_linked x

  -- one level, with what its parts give in their places
  abbrev pub operation_read : OperationLayer → OperationOver c
  operation_read =
      map-SetOperation Constraint ContentConstraint ElementOrSetOperation Parameter SubtypeElement
      InformationObjectField InformationObjectFields SyntaxApplication ASN1Type ASN1Value SetOperation Choice
      ChoiceOption SequenceOrSet SequenceOrSetMember SequenceOrSetOf LinkedField c.for_constraint c.for_content
      c.for_set c.for_parameter c.for_element c.for_field c.for_fields c.for_item c.for_type c.for_value
      c.for_operation c.for_choice c.for_option c.for_struct c.for_member c.for_list c.for_linked of_constraint
      of_content of_set of_parameter of_element of_field of_fields of_item of_type of_value of_operation of_choice
      of_option of_struct of_member of_list of_linked

  pub operation_is : (x : SetOperation) → of_operation x ≡ s.at_operation (operation_read (out-SetOperation x))
  operation_is x =
      fold_out-SetOperation c.for_constraint c.for_content c.for_set c.for_parameter c.for_element
      c.for_field c.for_fields c.for_item c.for_type c.for_value c.for_operation c.for_choice c.for_option
      c.for_struct c.for_member c.for_list c.for_linked s.at_constraint s.at_content s.at_set s.at_parameter
      s.at_element s.at_field s.at_fields s.at_item s.at_type s.at_value s.at_operation s.at_choice s.at_option
      s.at_struct s.at_member s.at_list s.at_linked x

  -- one level, with what its parts give in their places
  abbrev pub choice_read : ChoiceLayer → ChoiceOver c
  choice_read =
      map-Choice Constraint ContentConstraint ElementOrSetOperation Parameter SubtypeElement
      InformationObjectField InformationObjectFields SyntaxApplication ASN1Type ASN1Value SetOperation Choice
      ChoiceOption SequenceOrSet SequenceOrSetMember SequenceOrSetOf LinkedField c.for_constraint c.for_content
      c.for_set c.for_parameter c.for_element c.for_field c.for_fields c.for_item c.for_type c.for_value
      c.for_operation c.for_choice c.for_option c.for_struct c.for_member c.for_list c.for_linked of_constraint
      of_content of_set of_parameter of_element of_field of_fields of_item of_type of_value of_operation of_choice
      of_option of_struct of_member of_list of_linked

  pub choice_is : (x : Choice) → of_choice x ≡ s.at_choice (choice_read (out-Choice x))
  choice_is x =
      fold_out-Choice c.for_constraint c.for_content c.for_set c.for_parameter c.for_element
      c.for_field c.for_fields c.for_item c.for_type c.for_value c.for_operation c.for_choice c.for_option
      c.for_struct c.for_member c.for_list c.for_linked s.at_constraint s.at_content s.at_set s.at_parameter
      s.at_element s.at_field s.at_fields s.at_item s.at_type s.at_value s.at_operation s.at_choice s.at_option
      s.at_struct s.at_member s.at_list s.at_linked x

  -- one level, with what its parts give in their places
  abbrev pub option_read : OptionLayer → OptionOver c
  option_read =
      map-ChoiceOption Constraint ContentConstraint ElementOrSetOperation Parameter SubtypeElement
      InformationObjectField InformationObjectFields SyntaxApplication ASN1Type ASN1Value SetOperation Choice
      ChoiceOption SequenceOrSet SequenceOrSetMember SequenceOrSetOf LinkedField c.for_constraint c.for_content
      c.for_set c.for_parameter c.for_element c.for_field c.for_fields c.for_item c.for_type c.for_value
      c.for_operation c.for_choice c.for_option c.for_struct c.for_member c.for_list c.for_linked of_constraint
      of_content of_set of_parameter of_element of_field of_fields of_item of_type of_value of_operation of_choice
      of_option of_struct of_member of_list of_linked

  pub option_is : (x : ChoiceOption) → of_option x ≡ s.at_option (option_read (out-ChoiceOption x))
  option_is x =
      fold_out-ChoiceOption c.for_constraint c.for_content c.for_set c.for_parameter c.for_element
      c.for_field c.for_fields c.for_item c.for_type c.for_value c.for_operation c.for_choice c.for_option
      c.for_struct c.for_member c.for_list c.for_linked s.at_constraint s.at_content s.at_set s.at_parameter
      s.at_element s.at_field s.at_fields s.at_item s.at_type s.at_value s.at_operation s.at_choice s.at_option
      s.at_struct s.at_member s.at_list s.at_linked x

  -- one level, with what its parts give in their places
  abbrev pub struct_read : StructLayer → StructOver c
  struct_read =
      map-SequenceOrSet Constraint ContentConstraint ElementOrSetOperation Parameter SubtypeElement
      InformationObjectField InformationObjectFields SyntaxApplication ASN1Type ASN1Value SetOperation Choice
      ChoiceOption SequenceOrSet SequenceOrSetMember SequenceOrSetOf LinkedField c.for_constraint c.for_content
      c.for_set c.for_parameter c.for_element c.for_field c.for_fields c.for_item c.for_type c.for_value
      c.for_operation c.for_choice c.for_option c.for_struct c.for_member c.for_list c.for_linked of_constraint
      of_content of_set of_parameter of_element of_field of_fields of_item of_type of_value of_operation of_choice
      of_option of_struct of_member of_list of_linked

  pub struct_is : (x : SequenceOrSet) → of_struct x ≡ s.at_struct (struct_read (out-SequenceOrSet x))
  struct_is x =
      fold_out-SequenceOrSet c.for_constraint c.for_content c.for_set c.for_parameter c.for_element
      c.for_field c.for_fields c.for_item c.for_type c.for_value c.for_operation c.for_choice c.for_option
      c.for_struct c.for_member c.for_list c.for_linked s.at_constraint s.at_content s.at_set s.at_parameter
      s.at_element s.at_field s.at_fields s.at_item s.at_type s.at_value s.at_operation s.at_choice s.at_option
      s.at_struct s.at_member s.at_list s.at_linked x

  -- one level, with what its parts give in their places
  abbrev pub member_read : MemberLayer → MemberOver c
  member_read =
      map-SequenceOrSetMember Constraint ContentConstraint ElementOrSetOperation Parameter
      SubtypeElement InformationObjectField InformationObjectFields SyntaxApplication ASN1Type ASN1Value SetOperation
      Choice ChoiceOption SequenceOrSet SequenceOrSetMember SequenceOrSetOf LinkedField c.for_constraint c.for_content
      c.for_set c.for_parameter c.for_element c.for_field c.for_fields c.for_item c.for_type c.for_value
      c.for_operation c.for_choice c.for_option c.for_struct c.for_member c.for_list c.for_linked of_constraint
      of_content of_set of_parameter of_element of_field of_fields of_item of_type of_value of_operation of_choice
      of_option of_struct of_member of_list of_linked

  pub member_is : (x : SequenceOrSetMember) → of_member x ≡ s.at_member (member_read (out-SequenceOrSetMember x))
  member_is x =
      fold_out-SequenceOrSetMember c.for_constraint c.for_content c.for_set c.for_parameter
      c.for_element c.for_field c.for_fields c.for_item c.for_type c.for_value c.for_operation c.for_choice
      c.for_option c.for_struct c.for_member c.for_list c.for_linked s.at_constraint s.at_content s.at_set
      s.at_parameter s.at_element s.at_field s.at_fields s.at_item s.at_type s.at_value s.at_operation s.at_choice
      s.at_option s.at_struct s.at_member s.at_list s.at_linked x

  -- one level, with what its parts give in their places
  abbrev pub list_read : ListLayer → ListOver c
  list_read =
      map-SequenceOrSetOf Constraint ContentConstraint ElementOrSetOperation Parameter SubtypeElement
      InformationObjectField InformationObjectFields SyntaxApplication ASN1Type ASN1Value SetOperation Choice
      ChoiceOption SequenceOrSet SequenceOrSetMember SequenceOrSetOf LinkedField c.for_constraint c.for_content
      c.for_set c.for_parameter c.for_element c.for_field c.for_fields c.for_item c.for_type c.for_value
      c.for_operation c.for_choice c.for_option c.for_struct c.for_member c.for_list c.for_linked of_constraint
      of_content of_set of_parameter of_element of_field of_fields of_item of_type of_value of_operation of_choice
      of_option of_struct of_member of_list of_linked

  pub list_is : (x : SequenceOrSetOf) → of_list x ≡ s.at_list (list_read (out-SequenceOrSetOf x))
  list_is x =
      fold_out-SequenceOrSetOf c.for_constraint c.for_content c.for_set c.for_parameter c.for_element
      c.for_field c.for_fields c.for_item c.for_type c.for_value c.for_operation c.for_choice c.for_option
      c.for_struct c.for_member c.for_list c.for_linked s.at_constraint s.at_content s.at_set s.at_parameter
      s.at_element s.at_field s.at_fields s.at_item s.at_type s.at_value s.at_operation s.at_choice s.at_option
      s.at_struct s.at_member s.at_list s.at_linked x

  -- one level, with what its parts give in their places
  abbrev pub linked_read : LinkedLayer → LinkedOver c
  linked_read =
      map-LinkedField Constraint ContentConstraint ElementOrSetOperation Parameter SubtypeElement
      InformationObjectField InformationObjectFields SyntaxApplication ASN1Type ASN1Value SetOperation Choice
      ChoiceOption SequenceOrSet SequenceOrSetMember SequenceOrSetOf LinkedField c.for_constraint c.for_content
      c.for_set c.for_parameter c.for_element c.for_field c.for_fields c.for_item c.for_type c.for_value
      c.for_operation c.for_choice c.for_option c.for_struct c.for_member c.for_list c.for_linked of_constraint
      of_content of_set of_parameter of_element of_field of_fields of_item of_type of_value of_operation of_choice
      of_option of_struct of_member of_list of_linked

  pub linked_is : (x : LinkedField) → of_linked x ≡ s.at_linked (linked_read (out-LinkedField x))
  linked_is x =
      fold_out-LinkedField c.for_constraint c.for_content c.for_set c.for_parameter c.for_element
      c.for_field c.for_fields c.for_item c.for_type c.for_value c.for_operation c.for_choice c.for_option
      c.for_struct c.for_member c.for_list c.for_linked s.at_constraint s.at_content s.at_set s.at_parameter
      s.at_element s.at_field s.at_fields s.at_item s.at_type s.at_value s.at_operation s.at_choice s.at_option
      s.at_struct s.at_member s.at_list s.at_linked x
