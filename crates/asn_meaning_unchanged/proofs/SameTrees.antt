-- A reading that does not look at tags gives the same of a type with and without the tagging environment added to its tags.
use Rattle.std.proofs.Common.{◌≡◌, Option, sym, ap, ◌∙◌}
use Rattle.asn_tree_headers.specs.declared.headers.AsnTag.{AsnTag}
use Rattle.asn_tree_headers.specs.declared.headers.TaggingEnvironment.{TaggingEnvironment}
use Rattle.asn_tree.specs.declared.constraints.Constraint.{roll-Constraint, out-roll-Constraint}
use Rattle.asn_tree.specs.declared.constraints.ContentConstraint.{ContentConstraint, roll-ContentConstraint, out-roll-ContentConstraint, out-ContentConstraint, fold_out-ContentConstraint}
use Rattle.asn_tree.specs.declared.constraints.ElementOrSetOperation.{roll-ElementOrSetOperation, out-roll-ElementOrSetOperation}
use Rattle.asn_tree.specs.declared.constraints.Parameter.{roll-Parameter, out-roll-Parameter}
use Rattle.asn_tree.specs.declared.constraints.SubtypeElement.{roll-SubtypeElement, out-roll-SubtypeElement}
use Rattle.asn_tree.specs.declared.objects.InformationObjectField.{roll-InformationObjectField, out-roll-InformationObjectField}
use Rattle.asn_tree.specs.declared.objects.InformationObjectFields.{roll-InformationObjectFields, out-roll-InformationObjectFields}
use Rattle.asn_tree.specs.declared.objects.SyntaxApplication.{roll-SyntaxApplication, out-roll-SyntaxApplication}
use Rattle.asn_tree.specs.declared.types.ASN1Type.{ASN1Type, roll-ASN1Type, out-roll-ASN1Type}
use Rattle.asn_tree.specs.declared.values.ASN1Value.{roll-ASN1Value, out-roll-ASN1Value}
use Rattle.asn_tree.specs.declared.constraints.SetOperation.{roll-SetOperation, out-roll-SetOperation}
use Rattle.asn_tree.specs.declared.types.Choice.{roll-Choice, out-roll-Choice}
use Rattle.asn_tree.specs.declared.types.ChoiceOption.{roll-ChoiceOption, out-roll-ChoiceOption}
use Rattle.asn_tree.specs.declared.types.SequenceOrSet.{roll-SequenceOrSet, out-roll-SequenceOrSet}
use Rattle.asn_tree.specs.declared.types.SequenceOrSetMember.{roll-SequenceOrSetMember, out-roll-SequenceOrSetMember}
use Rattle.asn_tree.specs.declared.types.SequenceOrSetOf.{roll-SequenceOrSetOf, out-roll-SequenceOrSetOf}
use Rattle.asn_tree.specs.declared.values.LinkedField.{roll-LinkedField, out-roll-LinkedField}
use Rattle.asn_tree.specs.Folds.{Steps, of_constraint, constraint_read, constraint_is, of_content, content_read, of_set, set_read, set_is, of_parameter, parameter_read, parameter_is, of_element, element_read, element_is, of_field, field_read, field_is, of_fields, fields_read, fields_is, of_item, item_read, item_is, of_type, type_read, type_is, of_value, value_read, value_is, of_operation, operation_read, operation_is, of_choice, choice_read, choice_is, of_option, option_read, option_is, of_struct, struct_read, struct_is, of_member, member_read, member_is, of_list, list_read, list_is, of_linked, linked_read, linked_is}
use Rattle.asn_tree.specs.Layers.{Carriers, ConstraintOver, ContentOver, SetOver, ParameterOver, ElementOver, FieldOver, FieldsOver, ItemOver, TypeOver, ValueOver, OperationOver, ChoiceOver, OptionOver, StructOver, MemberOver, ListOver, LinkedOver, ConstraintLayer, ContentLayer, SetLayer, ParameterLayer, ElementLayer, FieldLayer, FieldsLayer, ItemLayer, TypeLayer, ValueLayer, OperationLayer, ChoiceLayer, OptionLayer, StructLayer, MemberLayer, ListLayer, LinkedLayer}
use Rattle.asn_tree.specs.Tagging.{retag, retagged, retagging}
use Rattle.asn_meaning_unchanged.proofs.AllTypes.{Shown, proved, bare_constraint, bare_content, bare_set, bare_parameter, bare_element, bare_field, bare_fields, bare_item, bare_type, bare_value, bare_operation, bare_choice, bare_option, bare_struct, bare_member, bare_list, bare_linked, each_type}
use Rattle.asn_meaning_unchanged.proofs.SameLayers.{shown, constraint_same, content_same, set_same, parameter_same, element_same, field_same, fields_same, item_same, type_same, value_same, operation_same, choice_same, option_again, option_same, struct_same, member_again, member_same, list_same, linked_same}

-- a tag at a member or an option is not looked at
pub record Blind {c : Carriers} (s : Steps c) : Type 0 where
  pub at_members : (m : MemberOver c) (t : Option AsnTag) → s.at_member (record m { tag = t }) ≡ s.at_member m
  pub at_options : (o : OptionOver c) (t : Option AsnTag) → s.at_option (record o { tag = t }) ≡ s.at_option o

-- ---- a reading of a tree that is made of one level

module _ {c : Carriers} (s : Steps c) where
  content_is : (x : ContentConstraint) → of_content s x ≡ s.at_content (content_read s (out-ContentConstraint x))
  content_is x =
      fold_out-ContentConstraint c.for_constraint c.for_content c.for_set c.for_parameter c.for_element c.for_field
      c.for_fields c.for_item c.for_type c.for_value c.for_operation c.for_choice c.for_option c.for_struct
      c.for_member c.for_list c.for_linked s.at_constraint s.at_content s.at_set s.at_parameter s.at_element
      s.at_field s.at_fields s.at_item s.at_type s.at_value s.at_operation s.at_choice s.at_option s.at_struct
      s.at_member s.at_list s.at_linked x

  constraint_made : (l : ConstraintLayer) → of_constraint s (roll-Constraint l) ≡ s.at_constraint (constraint_read s l)
  constraint_made l = constraint_is s (roll-Constraint l) ∙ ap (λ z. s.at_constraint (constraint_read s z)) (out-roll-Constraint l)

  content_made : (l : ContentLayer) → of_content s (roll-ContentConstraint l) ≡ s.at_content (content_read s l)
  content_made l = content_is (roll-ContentConstraint l) ∙ ap (λ z. s.at_content (content_read s z)) (out-roll-ContentConstraint l)

  set_made : (l : SetLayer) → of_set s (roll-ElementOrSetOperation l) ≡ s.at_set (set_read s l)
  set_made l = set_is s (roll-ElementOrSetOperation l) ∙ ap (λ z. s.at_set (set_read s z)) (out-roll-ElementOrSetOperation l)

  parameter_made : (l : ParameterLayer) → of_parameter s (roll-Parameter l) ≡ s.at_parameter (parameter_read s l)
  parameter_made l = parameter_is s (roll-Parameter l) ∙ ap (λ z. s.at_parameter (parameter_read s z)) (out-roll-Parameter l)

  element_made : (l : ElementLayer) → of_element s (roll-SubtypeElement l) ≡ s.at_element (element_read s l)
  element_made l = element_is s (roll-SubtypeElement l) ∙ ap (λ z. s.at_element (element_read s z)) (out-roll-SubtypeElement l)

  field_made : (l : FieldLayer) → of_field s (roll-InformationObjectField l) ≡ s.at_field (field_read s l)
  field_made l = field_is s (roll-InformationObjectField l) ∙ ap (λ z. s.at_field (field_read s z)) (out-roll-InformationObjectField l)

  fields_made : (l : FieldsLayer) → of_fields s (roll-InformationObjectFields l) ≡ s.at_fields (fields_read s l)
  fields_made l = fields_is s (roll-InformationObjectFields l) ∙ ap (λ z. s.at_fields (fields_read s z)) (out-roll-InformationObjectFields l)

  item_made : (l : ItemLayer) → of_item s (roll-SyntaxApplication l) ≡ s.at_item (item_read s l)
  item_made l = item_is s (roll-SyntaxApplication l) ∙ ap (λ z. s.at_item (item_read s z)) (out-roll-SyntaxApplication l)

  type_made : (l : TypeLayer) → of_type s (roll-ASN1Type l) ≡ s.at_type (type_read s l)
  type_made l = type_is s (roll-ASN1Type l) ∙ ap (λ z. s.at_type (type_read s z)) (out-roll-ASN1Type l)

  value_made : (l : ValueLayer) → of_value s (roll-ASN1Value l) ≡ s.at_value (value_read s l)
  value_made l = value_is s (roll-ASN1Value l) ∙ ap (λ z. s.at_value (value_read s z)) (out-roll-ASN1Value l)

  operation_made : (l : OperationLayer) → of_operation s (roll-SetOperation l) ≡ s.at_operation (operation_read s l)
  operation_made l = operation_is s (roll-SetOperation l) ∙ ap (λ z. s.at_operation (operation_read s z)) (out-roll-SetOperation l)

  choice_made : (l : ChoiceLayer) → of_choice s (roll-Choice l) ≡ s.at_choice (choice_read s l)
  choice_made l = choice_is s (roll-Choice l) ∙ ap (λ z. s.at_choice (choice_read s z)) (out-roll-Choice l)

  option_made : (l : OptionLayer) → of_option s (roll-ChoiceOption l) ≡ s.at_option (option_read s l)
  option_made l = option_is s (roll-ChoiceOption l) ∙ ap (λ z. s.at_option (option_read s z)) (out-roll-ChoiceOption l)

  struct_made : (l : StructLayer) → of_struct s (roll-SequenceOrSet l) ≡ s.at_struct (struct_read s l)
  struct_made l = struct_is s (roll-SequenceOrSet l) ∙ ap (λ z. s.at_struct (struct_read s z)) (out-roll-SequenceOrSet l)

  member_made : (l : MemberLayer) → of_member s (roll-SequenceOrSetMember l) ≡ s.at_member (member_read s l)
  member_made l = member_is s (roll-SequenceOrSetMember l) ∙ ap (λ z. s.at_member (member_read s z)) (out-roll-SequenceOrSetMember l)

  list_made : (l : ListLayer) → of_list s (roll-SequenceOrSetOf l) ≡ s.at_list (list_read s l)
  list_made l = list_is s (roll-SequenceOrSetOf l) ∙ ap (λ z. s.at_list (list_read s z)) (out-roll-SequenceOrSetOf l)

  linked_made : (l : LinkedLayer) → of_linked s (roll-LinkedField l) ≡ s.at_linked (linked_read s l)
  linked_made l = linked_is s (roll-LinkedField l) ∙ ap (λ z. s.at_linked (linked_read s z)) (out-roll-LinkedField l)

-- ---- all trees, each by its level

module _ {c : Carriers} (s : Steps c) (blind : Blind s) (e : TaggingEnvironment) where
  abbrev told : Shown
  told = shown s e

  constraint_case : (y : ConstraintOver (proved told)) → told.of_constraint (roll-Constraint (bare_constraint told y))
  constraint_case y =
      ap (of_constraint s) (constraint_made (retagging e) (bare_constraint told y))
      ∙ constraint_made s (constraint_read (retagging e) (bare_constraint told y))
      ∙ ap s.at_constraint (constraint_same s e y)
      ∙ sym (constraint_made s (bare_constraint told y))

  content_case : (y : ContentOver (proved told)) → told.of_content (roll-ContentConstraint (bare_content told y))
  content_case y =
      ap (of_content s) (content_made (retagging e) (bare_content told y))
      ∙ content_made s (content_read (retagging e) (bare_content told y))
      ∙ ap s.at_content (content_same s e y)
      ∙ sym (content_made s (bare_content told y))

  set_case : (y : SetOver (proved told)) → told.of_set (roll-ElementOrSetOperation (bare_set told y))
  set_case y =
      ap (of_set s) (set_made (retagging e) (bare_set told y))
      ∙ set_made s (set_read (retagging e) (bare_set told y))
      ∙ ap s.at_set (set_same s e y)
      ∙ sym (set_made s (bare_set told y))

  parameter_case : (y : ParameterOver (proved told)) → told.of_parameter (roll-Parameter (bare_parameter told y))
  parameter_case y =
      ap (of_parameter s) (parameter_made (retagging e) (bare_parameter told y))
      ∙ parameter_made s (parameter_read (retagging e) (bare_parameter told y))
      ∙ ap s.at_parameter (parameter_same s e y)
      ∙ sym (parameter_made s (bare_parameter told y))

  element_case : (y : ElementOver (proved told)) → told.of_element (roll-SubtypeElement (bare_element told y))
  element_case y =
      ap (of_element s) (element_made (retagging e) (bare_element told y))
      ∙ element_made s (element_read (retagging e) (bare_element told y))
      ∙ ap s.at_element (element_same s e y)
      ∙ sym (element_made s (bare_element told y))

  field_case : (y : FieldOver (proved told)) → told.of_field (roll-InformationObjectField (bare_field told y))
  field_case y =
      ap (of_field s) (field_made (retagging e) (bare_field told y))
      ∙ field_made s (field_read (retagging e) (bare_field told y))
      ∙ ap s.at_field (field_same s e y)
      ∙ sym (field_made s (bare_field told y))

  fields_case : (y : FieldsOver (proved told)) → told.of_fields (roll-InformationObjectFields (bare_fields told y))
  fields_case y =
      ap (of_fields s) (fields_made (retagging e) (bare_fields told y))
      ∙ fields_made s (fields_read (retagging e) (bare_fields told y))
      ∙ ap s.at_fields (fields_same s e y)
      ∙ sym (fields_made s (bare_fields told y))

  item_case : (y : ItemOver (proved told)) → told.of_item (roll-SyntaxApplication (bare_item told y))
  item_case y =
      ap (of_item s) (item_made (retagging e) (bare_item told y))
      ∙ item_made s (item_read (retagging e) (bare_item told y))
      ∙ ap s.at_item (item_same s e y)
      ∙ sym (item_made s (bare_item told y))

  type_case : (y : TypeOver (proved told)) → told.of_type (roll-ASN1Type (bare_type told y))
  type_case y =
      ap (of_type s) (type_made (retagging e) (bare_type told y))
      ∙ type_made s (type_read (retagging e) (bare_type told y))
      ∙ ap s.at_type (type_same s e y)
      ∙ sym (type_made s (bare_type told y))

  value_case : (y : ValueOver (proved told)) → told.of_value (roll-ASN1Value (bare_value told y))
  value_case y =
      ap (of_value s) (value_made (retagging e) (bare_value told y))
      ∙ value_made s (value_read (retagging e) (bare_value told y))
      ∙ ap s.at_value (value_same s e y)
      ∙ sym (value_made s (bare_value told y))

  operation_case : (y : OperationOver (proved told)) → told.of_operation (roll-SetOperation (bare_operation told y))
  operation_case y =
      ap (of_operation s) (operation_made (retagging e) (bare_operation told y))
      ∙ operation_made s (operation_read (retagging e) (bare_operation told y))
      ∙ ap s.at_operation (operation_same s e y)
      ∙ sym (operation_made s (bare_operation told y))

  choice_case : (y : ChoiceOver (proved told)) → told.of_choice (roll-Choice (bare_choice told y))
  choice_case y =
      ap (of_choice s) (choice_made (retagging e) (bare_choice told y))
      ∙ choice_made s (choice_read (retagging e) (bare_choice told y))
      ∙ ap s.at_choice (choice_same s e y)
      ∙ sym (choice_made s (bare_choice told y))

  option_case : (y : OptionOver (proved told)) → told.of_option (roll-ChoiceOption (bare_option told y))
  option_case y =
      ap (of_option s) (option_made (retagging e) (bare_option told y))
      ∙ option_made s (record (option_read (retagging e) (bare_option told y)) { tag = retag e y.tag })
      ∙ blind.at_options (option_again s e y) (retag e y.tag)
      ∙ ap s.at_option (option_same s e y)
      ∙ sym (option_made s (bare_option told y))

  struct_case : (y : StructOver (proved told)) → told.of_struct (roll-SequenceOrSet (bare_struct told y))
  struct_case y =
      ap (of_struct s) (struct_made (retagging e) (bare_struct told y))
      ∙ struct_made s (struct_read (retagging e) (bare_struct told y))
      ∙ ap s.at_struct (struct_same s e y)
      ∙ sym (struct_made s (bare_struct told y))

  member_case : (y : MemberOver (proved told)) → told.of_member (roll-SequenceOrSetMember (bare_member told y))
  member_case y =
      ap (of_member s) (member_made (retagging e) (bare_member told y))
      ∙ member_made s (record (member_read (retagging e) (bare_member told y)) { tag = retag e y.tag })
      ∙ blind.at_members (member_again s e y) (retag e y.tag)
      ∙ ap s.at_member (member_same s e y)
      ∙ sym (member_made s (bare_member told y))

  list_case : (y : ListOver (proved told)) → told.of_list (roll-SequenceOrSetOf (bare_list told y))
  list_case y =
      ap (of_list s) (list_made (retagging e) (bare_list told y))
      ∙ list_made s (list_read (retagging e) (bare_list told y))
      ∙ ap s.at_list (list_same s e y)
      ∙ sym (list_made s (bare_list told y))

  linked_case : (y : LinkedOver (proved told)) → told.of_linked (roll-LinkedField (bare_linked told y))
  linked_case y =
      ap (of_linked s) (linked_made (retagging e) (bare_linked told y))
      ∙ linked_made s (linked_read (retagging e) (bare_linked told y))
      ∙ ap s.at_linked (linked_same s e y)
      ∙ sym (linked_made s (bare_linked told y))

  pub type_reads_same : (ty : ASN1Type) → of_type s (retagged e ty) ≡ of_type s ty
  type_reads_same =
      each_type told constraint_case content_case set_case parameter_case element_case field_case fields_case item_case
      type_case value_case operation_case choice_case option_case struct_case member_case list_case linked_case
