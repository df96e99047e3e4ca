-- An induction over all trees: each type of tree has a statement of its own, shown of one level where it is shown of the parts.
use Rattle.std.proofs.Common.{subst}
use Rattle.asn_tree.specs.declared.constraints.Constraint.{Constraint, roll-Constraint, map-Constraint}
use Rattle.asn_tree.specs.declared.constraints.ContentConstraint.{ContentConstraint, roll-ContentConstraint, map-ContentConstraint}
use Rattle.asn_tree.specs.declared.constraints.ElementOrSetOperation.{ElementOrSetOperation, roll-ElementOrSetOperation, map-ElementOrSetOperation}
use Rattle.asn_tree.specs.declared.constraints.Parameter.{Parameter, roll-Parameter, map-Parameter}
use Rattle.asn_tree.specs.declared.constraints.SubtypeElement.{SubtypeElement, roll-SubtypeElement, map-SubtypeElement}
use Rattle.asn_tree.specs.declared.objects.InformationObjectField.{InformationObjectField, roll-InformationObjectField, map-InformationObjectField}
use Rattle.asn_tree.specs.declared.objects.InformationObjectFields.{InformationObjectFields, roll-InformationObjectFields, map-InformationObjectFields}
use Rattle.asn_tree.specs.declared.objects.SyntaxApplication.{SyntaxApplication, roll-SyntaxApplication, map-SyntaxApplication}
use Rattle.asn_tree.specs.declared.types.ASN1Type.{ASN1Type, roll-ASN1Type, map-ASN1Type, ind-ASN1Type}
use Rattle.asn_tree.specs.declared.values.ASN1Value.{ASN1Value, roll-ASN1Value, map-ASN1Value}
use Rattle.asn_tree.specs.declared.constraints.SetOperation.{SetOperation, roll-SetOperation, map-SetOperation}
use Rattle.asn_tree.specs.declared.types.Choice.{Choice, roll-Choice, map-Choice}
use Rattle.asn_tree.specs.declared.types.ChoiceOption.{ChoiceOption, roll-ChoiceOption, map-ChoiceOption}
use Rattle.asn_tree.specs.declared.types.SequenceOrSet.{SequenceOrSet, roll-SequenceOrSet, map-SequenceOrSet}
use Rattle.asn_tree.specs.declared.types.SequenceOrSetMember.{SequenceOrSetMember, roll-SequenceOrSetMember, map-SequenceOrSetMember}
use Rattle.asn_tree.specs.declared.types.SequenceOrSetOf.{SequenceOrSetOf, roll-SequenceOrSetOf, map-SequenceOrSetOf}
use Rattle.asn_tree.specs.declared.values.LinkedField.{LinkedField, roll-LinkedField, map-LinkedField}
use Rattle.asn_tree.specs.Layers.{Carriers, ConstraintOver, ConstraintLayer, ContentOver, ContentLayer, SetOver, SetLayer, ParameterOver, ParameterLayer, ElementOver, ElementLayer, FieldOver, FieldLayer, FieldsOver, FieldsLayer, ItemOver, ItemLayer, TypeOver, TypeLayer, ValueOver, ValueLayer, OperationOver, OperationLayer, ChoiceOver, ChoiceLayer, OptionOver, OptionLayer, StructOver, StructLayer, MemberOver, MemberLayer, ListOver, ListLayer, LinkedOver, LinkedLayer}

-- what is shown of each type of tree
pub record Shown : Type 1 where
  pub of_constraint : Constraint → Type 0
  pub of_content : ContentConstraint → Type 0
  pub of_set : ElementOrSetOperation → Type 0
  pub of_parameter : Parameter → Type 0
  pub of_element : SubtypeElement → Type 0
  pub of_field : InformationObjectField → Type 0
  pub of_fields : InformationObjectFields → Type 0
  pub of_item : SyntaxApplication → Type 0
  pub of_type : ASN1Type → Type 0
  pub of_value : ASN1Value → Type 0
  pub of_operation : SetOperation → Type 0
  pub of_choice : Choice → Type 0
  pub of_option : ChoiceOption → Type 0
  pub of_struct : SequenceOrSet → Type 0
  pub of_member : SequenceOrSetMember → Type 0
  pub of_list : SequenceOrSetOf → Type 0
  pub of_linked : LinkedField → Type 0

-- nothing is shown of any tree: what speaks of some types of trees alone is `record none_shown { .. }`
abbrev pub none_shown : Shown
none_shown =
    record {
      of_constraint = λ x. Unit {0};
      of_content = λ x. Unit {0};
      of_set = λ x. Unit {0};
      of_parameter = λ x. Unit {0};
      of_element = λ x. Unit {0};
      of_field = λ x. Unit {0};
      of_fields = λ x. Unit {0};
      of_item = λ x. Unit {0};
      of_type = λ x. Unit {0};
      of_value = λ x. Unit {0};
      of_operation = λ x. Unit {0};
      of_choice = λ x. Unit {0};
      of_option = λ x. Unit {0};
      of_struct = λ x. Unit {0};
      of_member = λ x. Unit {0};
      of_list = λ x. Unit {0};
      of_linked = λ x. Unit {0};
    }

-- each tree with what is shown of it
abbrev pub proved : Shown → Carriers
proved s =
    record {
      for_constraint = (x : Constraint) × s.of_constraint x;
      for_content = (x : ContentConstraint) × s.of_content x;
      for_set = (x : ElementOrSetOperation) × s.of_set x;
      for_parameter = (x : Parameter) × s.of_parameter x;
      for_element = (x : SubtypeElement) × s.of_element x;
      for_field = (x : InformationObjectField) × s.of_field x;
      for_fields = (x : InformationObjectFields) × s.of_fields x;
      for_item = (x : SyntaxApplication) × s.of_item x;
      for_type = (x : ASN1Type) × s.of_type x;
      for_value = (x : ASN1Value) × s.of_value x;
      for_operation = (x : SetOperation) × s.of_operation x;
      for_choice = (x : Choice) × s.of_choice x;
      for_option = (x : ChoiceOption) × s.of_option x;
      for_struct = (x : SequenceOrSet) × s.of_struct x;
      for_member = (x : SequenceOrSetMember) × s.of_member x;
      for_list = (x : SequenceOrSetOf) × s.of_list x;
      for_linked = (x : LinkedField) × s.of_linked x;
    }

module _ (s : Shown) where
  -- one level without what was shown
  abbrev pub bare_constraint : ConstraintOver (proved s) → ConstraintLayer
  bare_constraint =
      map-Constraint (proved s).for_constraint (proved s).for_content (proved s).for_set (proved s).for_parameter
      (proved s).for_element (proved s).for_field (proved s).for_fields (proved s).for_item (proved s).for_type
      (proved s).for_value (proved s).for_operation (proved s).for_choice (proved s).for_option (proved s).for_struct
      (proved s).for_member (proved s).for_list (proved s).for_linked Constraint ContentConstraint
      ElementOrSetOperation Parameter SubtypeElement InformationObjectField InformationObjectFields SyntaxApplication
      ASN1Type ASN1Value SetOperation Choice ChoiceOption SequenceOrSet SequenceOrSetMember SequenceOrSetOf
      LinkedField (λ y. y.0) (λ y. y.0) (λ y. y.0) (λ y. y.0) (λ y. y.0) (λ y. y.0) (λ y. y.0) (λ y. y.0) (λ y. y.0)
      (λ y. y.0) (λ y. y.0) (λ y. y.0) (λ y. y.0) (λ y. y.0) (λ y. y.0) (λ y. y.0) (λ y. y.0)

  -- one level without what was shown
  abbrev pub bare_content : ContentOver (proved s) → ContentLayer
  bare_content =
      map-ContentConstraint (proved s).for_constraint (proved s).for_content (proved s).for_set
      (proved s).for_parameter (proved s).for_element (proved s).for_field (proved s).for_fields (proved s).for_item
      (proved s).for_type (proved s).for_value (proved s).for_operation (proved s).for_choice (proved s).for_option
      (proved s).for_struct (proved s).for_member (proved s).for_list (proved s).for_linked Constraint
      ContentConstraint ElementOrSetOperation Parameter SubtypeElement InformationObjectField InformationObjectFields
      SyntaxApplication ASN1Type ASN1Value SetOperation Choice ChoiceOption SequenceOrSet SequenceOrSetMember
      SequenceOrSetOf LinkedField (λ y. y.0) (λ y. y.0) (λ y. y.0) (λ y. y.0) (λ y. y.0) (λ y. y.0) (λ y. y.0)
      (λ y. y.0) (λ y. y.0) (λ y. y.0) (λ y. y.0) (λ y. y.0) (λ y. y.0) (λ y. y.0) (λ y. y.0) (λ y. y.0) (λ y. y.0)

  -- one level without what was shown
  abbrev pub bare_set : SetOver (proved s) → SetLayer
  bare_set =
      map-ElementOrSetOperation (proved s).for_constraint (proved s).for_content (proved s).for_set
      (proved s).for_parameter (proved s).for_element (proved s).for_field (proved s).for_fields (proved s).for_item
      (proved s).for_type (proved s).for_value (proved s).for_operation (proved s).for_choice (proved s).for_option
      (proved s).for_struct (proved s).for_member (proved s).for_list (proved s).for_linked Constraint
      ContentConstraint ElementOrSetOperation Parameter SubtypeElement InformationObjectField InformationObjectFields
      SyntaxApplication ASN1Type ASN1Value SetOperation Choice ChoiceOption SequenceOrSet SequenceOrSetMember
      SequenceOrSetOf LinkedField (λ y. y.0) (λ y. y.0) (λ y. y.0) (λ y. y.0) (λ y. y.0) (λ y. y.0) (λ y. y.0)
      (λ y. y.0) (λ y. y.0) (λ y. y.0) (λ y. y.0) (λ y. y.0) (λ y. y.0) (λ y. y.0) (λ y. y.0) (λ y. y.0) (λ y. y.0)

  -- one level without what was shown
  abbrev pub bare_parameter : ParameterOver (proved s) → ParameterLayer
  bare_parameter =
      map-Parameter (proved s).for_constraint (proved s).for_content (proved s).for_set (proved s).for_parameter
      (proved s).for_element (proved s).for_field (proved s).for_fields (proved s).for_item (proved s).for_type
      (proved s).for_value (proved s).for_operation (proved s).for_choice (proved s).for_option (proved s).for_struct
      (proved s).for_member (proved s).for_list (proved s).for_linked Constraint ContentConstraint
      ElementOrSetOperation Parameter SubtypeElement InformationObjectField InformationObjectFields SyntaxApplication
      ASN1Type ASN1Value SetOperation Choice ChoiceOption SequenceOrSet SequenceOrSetMember SequenceOrSetOf
      LinkedField (λ y. y.0) (λ y. y.0) (λ y. y.0) (λ y. y.0) (λ y. y.0) (λ y. y.0) (λ y. y.0) (λ y. y.0) (λ y. y.0)
      (λ y. y.0) (λ y. y.0) (λ y. y.0) (λ y. y.0) (λ y. y.0) (λ y. y.0) (λ y. y.0) (λ y. y.0)

  -- one level without what was shown
  abbrev pub bare_element : ElementOver (proved s) → ElementLayer
  bare_element =
      map-SubtypeElement (proved s).for_constraint (proved s).for_content (proved s).for_set (proved s).for_parameter
      (proved s).for_element (proved s).for_field (proved s).for_fields (proved s).for_item (proved s).for_type
      (proved s).for_value (proved s).for_operation (proved s).for_choice (proved s).for_option (proved s).for_struct
      (proved s).for_member (proved s).for_list (proved s).for_linked Constraint ContentConstraint
      ElementOrSetOperation Parameter SubtypeElement InformationObjectField InformationObjectFields SyntaxApplication
      ASN1Type ASN1Value SetOperation Choice ChoiceOption SequenceOrSet SequenceOrSetMember SequenceOrSetOf
      LinkedField (λ y. y.0) (λ y. y.0) (λ y. y.0) (λ y. y.0) (λ y. y.0) (λ y. y.0) (λ y. y.0) (λ y. y.0) (λ y. y.0)
      (λ y. y.0) (λ y. y.0) (λ y. y.0) (λ y. y.0) (λ y. y.0) (λ y. y.0) (λ y. y.0) (λ y. y.0)

  -- one level without what was shown
  abbrev pub bare_field : FieldOver (proved s) → FieldLayer
  bare_field =
      map-InformationObjectField (proved s).for_constraint (proved s).for_content (proved s).for_set
      (proved s).for_parameter (proved s).for_element (proved s).for_field (proved s).for_fields (proved s).for_item
      (proved s).for_type (proved s).for_value (proved s).for_operation (proved s).for_choice (proved s).for_option
      (proved s).for_struct (proved s).for_member (proved s).for_list (proved s).for_linked Constraint
      ContentConstraint ElementOrSetOperation Parameter SubtypeElement InformationObjectField InformationObjectFields
      SyntaxApplication ASN1Type ASN1Value SetOperation Choice ChoiceOption SequenceOrSet SequenceOrSetMember
      SequenceOrSetOf LinkedField (λ y. y.0) (λ y. y.0) (λ y. y.0) (λ y. y.0) (λ y. y.0) (λ y. y.0) (λ y. y.0)
      (λ y. y.0) (λ y. y.0) (λ y. y.0) (λ y. y.0) (λ y. y.0) (λ y. y.0) (λ y. y.0) (λ y. y.0) (λ y. y.0) (λ y. y.0)

  -- one level without what was shown
  abbrev pub bare_fields : FieldsOver (proved s) → FieldsLayer
  bare_fields =
      map-InformationObjectFields (proved s).for_constraint (proved s).for_content (proved s).for_set
      (proved s).for_parameter (proved s).for_element (proved s).for_field (proved s).for_fields (proved s).for_item
      (proved s).for_type (proved s).for_value (proved s).for_operation (proved s).for_choice (proved s).for_option
      (proved s).for_struct (proved s).for_member (proved s).for_list (proved s).for_linked Constraint
      ContentConstraint ElementOrSetOperation Parameter SubtypeElement InformationObjectField InformationObjectFields
      SyntaxApplication ASN1Type ASN1Value SetOperation Choice ChoiceOption SequenceOrSet SequenceOrSetMember
      SequenceOrSetOf LinkedField (λ y. y.0) (λ y. y.0) (λ y. y.0) (λ y. y.0) (λ y. y.0) (λ y. y.0) (λ y. y.0)
      (λ y. y.0) (λ y. y.0) (λ y. y.0) (λ y. y.0) (λ y. y.0) (λ y. y.0) (λ y. y.0) (λ y. y.0) (λ y. y.0) (λ y. y.0)

  -- one level without what was shown
  abbrev pub bare_item : ItemOver (proved s) → ItemLayer
  bare_item =
      map-SyntaxApplication (proved s).for_constraint (proved s).for_content (proved s).for_set
      (proved s).for_parameter (proved s).for_element (proved s).for_field (proved s).for_fields (proved s).for_item
      (proved s).for_type (proved s).for_value (proved s).for_operation (proved s).for_choice (proved s).for_option
      (proved s).for_struct (proved s).for_member (proved s).for_list (proved s).for_linked Constraint
      ContentConstraint ElementOrSetOperation Parameter SubtypeElement InformationObjectField InformationObjectFields
      SyntaxApplication ASN1Type ASN1Value SetOperation Choice ChoiceOption SequenceOrSet SequenceOrSetMember
      SequenceOrSetOf LinkedField (λ y. y.0) (λ y. y.0) (λ y. y.0) (λ y. y.0) (λ y. y.0) (λ y. y.0) (λ y. y.0)
      (λ y. y.0) (λ y. y.0) (λ y. y.0) (λ y. y.0) (λ y. y.0) (λ y. y.0) (λ y. y.0) (λ y. y.0) (λ y. y.0) (λ y. y.0)

  -- one level without what was shown
  abbrev pub bare_type : TypeOver (proved s) → TypeLayer
  bare_type =
      map-ASN1Type (proved s).for_constraint (proved s).for_content (proved s).for_set (proved s).for_parameter
      (proved s).for_element (proved s).for_field (proved s).for_fields (proved s).for_item (proved s).for_type
      (proved s).for_value (proved s).for_operation (proved s).for_choice (proved s).for_option (proved s).for_struct
      (proved s).for_member (proved s).for_list (proved s).for_linked Constraint ContentConstraint
      ElementOrSetOperation Parameter SubtypeElement InformationObjectField InformationObjectFields SyntaxApplication
      ASN1Type ASN1Value SetOperation Choice ChoiceOption SequenceOrSet SequenceOrSetMember SequenceOrSetOf
      LinkedField (λ y. y.0) (λ y. y.0) (λ y. y.0) (λ y. y.0) (λ y. y.0) (λ y. y.0) (λ y. y.0) (λ y. y.0) (λ y. y.0)
      (λ y. y.0) (λ y. y.0) (λ y. y.0) (λ y. y.0) (λ y. y.0) (λ y. y.0) (λ y. y.0) (λ y. y.0)

  -- one level without what was shown
  abbrev pub bare_value : ValueOver (proved s) → ValueLayer
  bare_value =
      map-ASN1Value (proved s).for_constraint (proved s).for_content (proved s).for_set (proved s).for_parameter
      (proved s).for_element (proved s).for_field (proved s).for_fields (proved s).for_item (proved s).for_type
      (proved s).for_value (proved s).for_operation (proved s).for_choice (proved s).for_option (proved s).for_struct
      (proved s).for_member (proved s).for_list (proved s).for_linked Constraint ContentConstraint
      ElementOrSetOperation Parameter SubtypeElement InformationObjectField InformationObjectFields SyntaxApplication
      ASN1Type ASN1Value SetOperation Choice ChoiceOption SequenceOrSet SequenceOrSetMember SequenceOrSetOf
      LinkedField (λ y. y.0) (λ y. y.0) (λ y. y.0) (λ y. y.0) (λ y. y.0) (λ y. y.0) (λ y. y.0) (λ y. y.0) (λ y. y.0)
      (λ y. y.0) (λ y. y.0) (λ y. y.0) (λ y. y.0) (λ y. y.0) (λ y. y.0) (λ y. y.0) (λ y. y.0)

  -- one level without what was shown
  abbrev pub bare_operation : OperationOver (proved s) → OperationLayer
  bare_operation =
      map-SetOperation (proved s).for_constraint (proved s).for_content (proved s).for_set (proved s).for_parameter
      (proved s).for_element (proved s).for_field (proved s).for_fields (proved s).for_item (proved s).for_type
      (proved s).for_value (proved s).for_operation (proved s).for_choice (proved s).for_option (proved s).for_struct
      (proved s).for_member (proved s).for_list (proved s).for_linked Constraint ContentConstraint
      ElementOrSetOperation Parameter SubtypeElement InformationObjectField InformationObjectFields SyntaxApplication
      ASN1Type ASN1Value SetOperation Choice ChoiceOption SequenceOrSet SequenceOrSetMember SequenceOrSetOf
      LinkedField (λ y. y.0) (λ y. y.0) (λ y. y.0) (λ y. y.0) (λ y. y.0) (λ y. y.0) (λ y. y.0) (λ y. y.0) (λ y. y.0)
      (λ y. y.0) (λ y. y.0) (λ y. y.0) (λ y. y.0) (λ y. y.0) (λ y. y.0) (λ y. y.0) (λ y. y.0)

  -- one level without what was shown
  abbrev pub bare_choice : ChoiceOver (proved s) → ChoiceLayer
  bare_choice =
      map-Choice (proved s).for_constraint (proved s).for_content (proved s).for_set (proved s).for_parameter
      (proved s).for_element (proved s).for_field (proved s).for_fields (proved s).for_item (proved s).for_type
      (proved s).for_value (proved s).for_operation (proved s).for_choice (proved s).for_option (proved s).for_struct
      (proved s).for_member (proved s).for_list (proved s).for_linked Constraint ContentConstraint
      ElementOrSetOperation Parameter SubtypeElement InformationObjectField InformationObjectFields SyntaxApplication
      ASN1Type ASN1Value SetOperation Choice ChoiceOption SequenceOrSet SequenceOrSetMember SequenceOrSetOf
      LinkedField (λ y. y.0) (λ y. y.0) (λ y. y.0) (λ y. y.0) (λ y. y.0) (λ y. y.0) (λ y. y.0) (λ y. y.0) (λ y. y.0)
      (λ y. y.0) (λ y. y.0) (λ y. y.0) (λ y. y.0) (λ y. y.0) (λ y. y.0) (λ y. y.0) (λ y. y.0)

  -- one level without what was shown
  abbrev pub bare_option : OptionOver (proved s) → OptionLayer
  bare_option =
      map-ChoiceOption (proved s).for_constraint (proved s).for_content (proved s).for_set (proved s).for_parameter
      (proved s).for_element (proved s).for_field (proved s).for_fields (proved s).for_item (proved s).for_type
      (proved s).for_value (proved s).for_operation (proved s).for_choice (proved s).for_option (proved s).for_struct
      (proved s).for_member (proved s).for_list (proved s).for_linked Constraint ContentConstraint
      ElementOrSetOperation Parameter SubtypeElement InformationObjectField InformationObjectFields SyntaxApplication
      ASN1Type ASN1Value SetOperation Choice ChoiceOption SequenceOrSet SequenceOrSetMember SequenceOrSetOf
      LinkedField (λ y. y.0) (λ y. y.0) (λ y. y.0) (λ y. y.0) (λ y. y.0) (λ y. y.0) (λ y. y.0) (λ y. y.0) (λ y. y.0)
      (λ y. y.0) (λ y. y.0) (λ y. y.0) (λ y. y.0) (λ y. y.0) (λ y. y.0) (λ y. y.0) (λ y. y.0)

  -- one level without what was shown
  abbrev pub bare_struct : StructOver (proved s) → StructLayer
  bare_struct =
      map-SequenceOrSet (proved s).for_constraint (proved s).for_content (proved s).for_set (proved s).for_parameter
      (proved s).for_element (proved s).for_field (proved s).for_fields (proved s).for_item (proved s).for_type
      (proved s).for_value (proved s).for_operation (proved s).for_choice (proved s).for_option (proved s).for_struct
      (proved s).for_member (proved s).for_list (proved s).for_linked Constraint ContentConstraint
      ElementOrSetOperation Parameter SubtypeElement InformationObjectField InformationObjectFields SyntaxApplication
      ASN1Type ASN1Value SetOperation Choice ChoiceOption SequenceOrSet SequenceOrSetMember SequenceOrSetOf
      LinkedField (λ y. y.0) (λ y. y.0) (λ y. y.0) (λ y. y.0) (λ y. y.0) (λ y. y.0) (λ y. y.0) (λ y. y.0) (λ y. y.0)
      (λ y. y.0) (λ y. y.0) (λ y. y.0) (λ y. y.0) (λ y. y.0) (λ y. y.0) (λ y. y.0) (λ y. y.0)

  -- one level without what was shown
  abbrev pub bare_member : MemberOver (proved s) → MemberLayer
  bare_member =
      map-SequenceOrSetMember (proved s).for_constraint (proved s).for_content (proved s).for_set
      (proved s).for_parameter (proved s).for_element (proved s).for_field (proved s).for_fields (proved s).for_item
      (proved s).for_type (proved s).for_value (proved s).for_operation (proved s).for_choice (proved s).for_option
      (proved s).for_struct (proved s).for_member (proved s).for_list (proved s).for_linked Constraint
      ContentConstraint ElementOrSetOperation Parameter SubtypeElement InformationObjectField InformationObjectFields
      SyntaxApplication ASN1Type ASN1Value SetOperation Choice ChoiceOption SequenceOrSet SequenceOrSetMember
      SequenceOrSetOf LinkedField (λ y. y.0) (λ y. y.0) (λ y. y.0) (λ y. y.0) (λ y. y.0) (λ y. y.0) (λ y. y.0)
      (λ y. y.0) (λ y. y.0) (λ y. y.0) (λ y. y.0) (λ y. y.0) (λ y. y.0) (λ y. y.0) (λ y. y.0) (λ y. y.0) (λ y. y.0)

  -- one level without what was shown
  abbrev pub bare_list : ListOver (proved s) → ListLayer
  bare_list =
      map-SequenceOrSetOf (proved s).for_constraint (proved s).for_content (proved s).for_set (proved s).for_parameter
      (proved s).for_element (proved s).for_field (proved s).for_fields (proved s).for_item (proved s).for_type
      (proved s).for_value (proved s).for_operation (proved s).for_choice (proved s).for_option (proved s).for_struct
      (proved s).for_member (proved s).for_list (proved s).for_linked Constraint ContentConstraint
      ElementOrSetOperation Parameter SubtypeElement InformationObjectField InformationObjectFields SyntaxApplication
      ASN1Type ASN1Value SetOperation Choice ChoiceOption SequenceOrSet SequenceOrSetMember SequenceOrSetOf
      LinkedField (λ y. y.0) (λ y. y.0) (λ y. y.0) (λ y. y.0) (λ y. y.0) (λ y. y.0) (λ y. y.0) (λ y. y.0) (λ y. y.0)
      (λ y. y.0) (λ y. y.0) (λ y. y.0) (λ y. y.0) (λ y. y.0) (λ y. y.0) (λ y. y.0) (λ y. y.0)

  -- one level without what was shown
  abbrev pub bare_linked : LinkedOver (proved s) → LinkedLayer
  bare_linked =
      map-LinkedField (proved s).for_constraint (proved s).for_content (proved s).for_set (proved s).for_parameter
      (proved s).for_element (proved s).for_field (proved s).for_fields (proved s).for_item (proved s).for_type
      (proved s).for_value (proved s).for_operation (proved s).for_choice (proved s).for_option (proved s).for_struct
      (proved s).for_member (proved s).for_list (proved s).for_linked Constraint ContentConstraint
      ElementOrSetOperation Parameter SubtypeElement InformationObjectField InformationObjectFields SyntaxApplication
      ASN1Type ASN1Value SetOperation Choice ChoiceOption SequenceOrSet SequenceOrSetMember SequenceOrSetOf
      LinkedField (λ y. y.0) (λ y. y.0) (λ y. y.0) (λ y. y.0) (λ y. y.0) (λ y. y.0) (λ y. y.0) (λ y. y.0) (λ y. y.0)
      (λ y. y.0) (λ y. y.0) (λ y. y.0) (λ y. y.0) (λ y. y.0) (λ y. y.0) (λ y. y.0) (λ y. y.0)

  module _ (at_constraint : (y : ConstraintOver (proved s)) → s.of_constraint (roll-Constraint (bare_constraint y)))
      (at_content : (y : ContentOver (proved s)) → s.of_content (roll-ContentConstraint (bare_content y)))
      (at_set : (y : SetOver (proved s)) → s.of_set (roll-ElementOrSetOperation (bare_set y)))
      (at_parameter : (y : ParameterOver (proved s)) → s.of_parameter (roll-Parameter (bare_parameter y)))
      (at_element : (y : ElementOver (proved s)) → s.of_element (roll-SubtypeElement (bare_element y)))
      (at_field : (y : FieldOver (proved s)) → s.of_field (roll-InformationObjectField (bare_field y)))
      (at_fields : (y : FieldsOver (proved s)) → s.of_fields (roll-InformationObjectFields (bare_fields y)))
      (at_item : (y : ItemOver (proved s)) → s.of_item (roll-SyntaxApplication (bare_item y)))
      (at_type : (y : TypeOver (proved s)) → s.of_type (roll-ASN1Type (bare_type y)))
      (at_value : (y : ValueOver (proved s)) → s.of_value (roll-ASN1Value (bare_value y)))
      (at_operation : (y : OperationOver (proved s)) → s.of_operation (roll-SetOperation (bare_operation y)))
      (at_choice : (y : ChoiceOver (proved s)) → s.of_choice (roll-Choice (bare_choice y)))
      (at_option : (y : OptionOver (proved s)) → s.of_option (roll-ChoiceOption (bare_option y)))
      (at_struct : (y : StructOver (proved s)) → s.of_struct (roll-SequenceOrSet (bare_struct y)))
      (at_member : (y : MemberOver (proved s)) → s.of_member (roll-SequenceOrSetMember (bare_member y)))
      (at_list : (y : ListOver (proved s)) → s.of_list (roll-SequenceOrSetOf (bare_list y)))
      (at_linked : (y : LinkedOver (proved s)) → s.of_linked (roll-LinkedField (bare_linked y))) where
    pub each_type : (x : ASN1Type) → s.of_type x
    each_type =
        ind-ASN1Type
        s.of_constraint
        s.of_content
        s.of_set
        s.of_parameter
        s.of_element
        s.of_field
        s.of_fields
        s.of_item
        s.of_type
        s.of_value
        s.of_operation
        s.of_choice
        s.of_option
        s.of_struct
        s.of_member
        s.of_list
        s.of_linked
        (λ x y is. subst (λ z. s.of_constraint (roll-Constraint z)) is (at_constraint y))
        (λ x y is. subst (λ z. s.of_content (roll-ContentConstraint z)) is (at_content y))
        (λ x y is. subst (λ z. s.of_set (roll-ElementOrSetOperation z)) is (at_set y))
        (λ x y is. subst (λ z. s.of_parameter (roll-Parameter z)) is (at_parameter y))
        (λ x y is. subst (λ z. s.of_element (roll-SubtypeElement z)) is (at_element y))
        (λ x y is. subst (λ z. s.of_field (roll-InformationObjectField z)) is (at_field y))
        (λ x y is. subst (λ z. s.of_fields (roll-InformationObjectFields z)) is (at_fields y))
        (λ x y is. subst (λ z. s.of_item (roll-SyntaxApplication z)) is (at_item y))
        (λ x y is. subst (λ z. s.of_type (roll-ASN1Type z)) is (at_type y))
        (λ x y is. subst (λ z. s.of_value (roll-ASN1Value z)) is (at_value y))
        (λ x y is. subst (λ z. s.of_operation (roll-SetOperation z)) is (at_operation y))
        (λ x y is. subst (λ z. s.of_choice (roll-Choice z)) is (at_choice y))
        (λ x y is. subst (λ z. s.of_option (roll-ChoiceOption z)) is (at_option y))
        (λ x y is. subst (λ z. s.of_struct (roll-SequenceOrSet z)) is (at_struct y))
        (λ x y is. subst (λ z. s.of_member (roll-SequenceOrSetMember z)) is (at_member y))
        (λ x y is. subst (λ z. s.of_list (roll-SequenceOrSetOf z)) is (at_list y))
        (λ x y is. subst (λ z. s.of_linked (roll-LinkedField z)) is (at_linked y))
