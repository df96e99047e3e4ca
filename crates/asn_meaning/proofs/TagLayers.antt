-- One level of each tree whose tags are changed.
use Rattle.std.proofs.Common.{◌≡◌, ℕ, List, [], ◌∷◌, ◌++◌, map, Option, refl, sym, ap, ◌∙◌}
use Rattle.asn_tree.specs.Passes.{constraint_parts, constraint_rewritten, element_parts, element_rewritten, field_parts, field_rewritten, fields_parts, fields_rewritten, item_parts, item_rewritten, linked_parts, linked_rewritten, list_parts, list_rewritten, choice_parts, choice_rewritten, member_parts, member_rewritten, operation_parts, operation_rewritten, option_parts, option_rewritten, parameter_parts, parameter_rewritten, set_parts, set_rewritten, struct_parts, struct_rewritten, type_parts, type_rewritten, value_parts, value_rewritten, rewritten_choice, rewritten_element, rewritten_field, rewritten_fields, rewritten_item, rewritten_linked, rewritten_list, rewritten_member, rewritten_operation, rewritten_option, rewritten_parameter, rewritten_set, rewritten_struct}
use Rattle.asn_tree.specs.declared.constraints.Constraint.{Constraint, out-Constraint, out-roll-Constraint}
use Rattle.asn_tree.specs.declared.constraints.ElementOrSetOperation.{ElementOrSetOperation, out-ElementOrSetOperation, out-roll-ElementOrSetOperation}
use Rattle.asn_tree.specs.declared.constraints.Parameter.{Parameter, out-Parameter, out-roll-Parameter}
use Rattle.asn_tree.specs.declared.constraints.SetOperation.{SetOperation, out-SetOperation, out-roll-SetOperation}
use Rattle.asn_tree.specs.declared.constraints.SubtypeElement.{SubtypeElement, out-SubtypeElement, out-roll-SubtypeElement}
use Rattle.asn_tree.specs.declared.objects.InformationObjectField.{InformationObjectField, out-InformationObjectField, out-roll-InformationObjectField, roll-InformationObjectField, roll-out-InformationObjectField}
use Rattle.asn_tree.specs.declared.objects.InformationObjectFields.{InformationObjectFields, out-InformationObjectFields, out-roll-InformationObjectFields}
use Rattle.asn_tree.specs.declared.objects.SyntaxApplication.{SyntaxApplication, out-SyntaxApplication, out-roll-SyntaxApplication}
use Rattle.asn_tree.specs.declared.types.ASN1Type.{ASN1Type, ASN1Type-F, out-ASN1Type, out-roll-ASN1Type, roll-ASN1Type, roll-out-ASN1Type}
use Rattle.asn_tree.specs.declared.types.Choice.{Choice, out-Choice, out-roll-Choice}
use Rattle.asn_tree.specs.declared.types.ChoiceOption.{ChoiceOption, out-ChoiceOption, out-roll-ChoiceOption}
use Rattle.asn_tree.specs.declared.types.SequenceOrSet.{SequenceOrSet, out-SequenceOrSet, out-roll-SequenceOrSet}
use Rattle.asn_tree.specs.declared.types.SequenceOrSetMember.{SequenceOrSetMember, out-SequenceOrSetMember, out-roll-SequenceOrSetMember}
use Rattle.asn_tree.specs.declared.types.SequenceOrSetOf.{SequenceOrSetOf, out-SequenceOrSetOf, out-roll-SequenceOrSetOf}
use Rattle.asn_tree.specs.declared.values.ASN1Value.{ASN1Value, ASN1Value-F, out-ASN1Value, out-roll-ASN1Value, roll-ASN1Value, roll-out-ASN1Value}
use Rattle.asn_tree.specs.declared.values.LinkedField.{LinkedField, out-LinkedField, out-roll-LinkedField}
use Rattle.asn_tree_kinds.specs.declared.values.StructLikeFieldValueOver.{StructLikeFieldValueOver}
use Rattle.asn_tree_kinds.specs.declared.values.StructLikeFieldValueOver.TheVariants.{Explicit, Implicit}
use Rattle.asn_tree_notation.specs.Types.{constraints_at, constraints_of}
use Rattle.asn_meaning.specs.Placed.{listed}
use Rattle.asn_meaning.specs.Kinds.{Kind, StructKind, ListKind, ChoiceKind, FieldKind, ReferenceKind, kind_at, kind_of_type}
use Rattle.asn_meaning.specs.Layers.{ClassFieldLayer, LinkedLayer, MemberLayer, OptionLayer, ReferenceLayer, TypeLayer, ValueLayer}
use Rattle.asn_meaning.specs.Tags.{TagChange, tagging, tagged, tagged_constraint, tagged_value}
use Rattle.asn_meaning.specs.Written.{Written, BracesWritten, FieldsWritten, ElementsWritten, AlternativeWritten, NestedWritten, explicit_field, explicit_fields, if_explicit, as_written, written_at}

module _ (f : TagChange) where
  abbrev pub each_constraint : List Constraint → List Constraint
  each_constraint cs = map (tagged_constraint f) cs

  abbrev pub member_layer : MemberLayer → MemberLayer
  member_layer x = record (member_parts (tagging f) x) { tag = f x.tag }

  abbrev pub option_layer : OptionLayer → OptionLayer
  option_layer x = record (option_parts (tagging f) x) { tag = f x.tag }

  pub type_out : (x : ASN1Type) → out-ASN1Type (tagged f x) ≡ type_parts (tagging f) (out-ASN1Type x)
  type_out x = ap out-ASN1Type (type_rewritten (tagging f) x) ∙ out-roll-ASN1Type (type_parts (tagging f) (out-ASN1Type x))

  pub struct_out : (x : SequenceOrSet) → out-SequenceOrSet (rewritten_struct (tagging f) x) ≡ struct_parts (tagging f) (out-SequenceOrSet x)
  struct_out x = ap out-SequenceOrSet (struct_rewritten (tagging f) x) ∙ out-roll-SequenceOrSet (struct_parts (tagging f) (out-SequenceOrSet x))

  pub list_out : (x : SequenceOrSetOf) → out-SequenceOrSetOf (rewritten_list (tagging f) x) ≡ list_parts (tagging f) (out-SequenceOrSetOf x)
  list_out x = ap out-SequenceOrSetOf (list_rewritten (tagging f) x) ∙ out-roll-SequenceOrSetOf (list_parts (tagging f) (out-SequenceOrSetOf x))

  pub choice_out : (x : Choice) → out-Choice (rewritten_choice (tagging f) x) ≡ choice_parts (tagging f) (out-Choice x)
  choice_out x = ap out-Choice (choice_rewritten (tagging f) x) ∙ out-roll-Choice (choice_parts (tagging f) (out-Choice x))

  pub member_out : (x : SequenceOrSetMember) → out-SequenceOrSetMember (rewritten_member (tagging f) x) ≡ member_layer (out-SequenceOrSetMember x)
  member_out x = ap out-SequenceOrSetMember (member_rewritten (tagging f) x) ∙ out-roll-SequenceOrSetMember (member_layer (out-SequenceOrSetMember x))

  pub option_out : (x : ChoiceOption) → out-ChoiceOption (rewritten_option (tagging f) x) ≡ option_layer (out-ChoiceOption x)
  option_out x = ap out-ChoiceOption (option_rewritten (tagging f) x) ∙ out-roll-ChoiceOption (option_layer (out-ChoiceOption x))

  pub constraint_out : (x : Constraint) → out-Constraint (tagged_constraint f x) ≡ constraint_parts (tagging f) (out-Constraint x)
  constraint_out x = ap out-Constraint (constraint_rewritten (tagging f) x) ∙ out-roll-Constraint (constraint_parts (tagging f) (out-Constraint x))

  pub set_out : (x : ElementOrSetOperation) → out-ElementOrSetOperation (rewritten_set (tagging f) x) ≡ set_parts (tagging f) (out-ElementOrSetOperation x)
  set_out x = ap out-ElementOrSetOperation (set_rewritten (tagging f) x) ∙ out-roll-ElementOrSetOperation (set_parts (tagging f) (out-ElementOrSetOperation x))

  pub operation_out : (x : SetOperation) → out-SetOperation (rewritten_operation (tagging f) x) ≡ operation_parts (tagging f) (out-SetOperation x)
  operation_out x = ap out-SetOperation (operation_rewritten (tagging f) x) ∙ out-roll-SetOperation (operation_parts (tagging f) (out-SetOperation x))

  pub element_out : (x : SubtypeElement) → out-SubtypeElement (rewritten_element (tagging f) x) ≡ element_parts (tagging f) (out-SubtypeElement x)
  element_out x = ap out-SubtypeElement (element_rewritten (tagging f) x) ∙ out-roll-SubtypeElement (element_parts (tagging f) (out-SubtypeElement x))

  pub parameter_out : (x : Parameter) → out-Parameter (rewritten_parameter (tagging f) x) ≡ parameter_parts (tagging f) (out-Parameter x)
  parameter_out x = ap out-Parameter (parameter_rewritten (tagging f) x) ∙ out-roll-Parameter (parameter_parts (tagging f) (out-Parameter x))

  pub field_out : (x : InformationObjectField) → out-InformationObjectField (rewritten_field (tagging f) x) ≡ field_parts (tagging f) (out-InformationObjectField x)
  field_out x = ap out-InformationObjectField (field_rewritten (tagging f) x) ∙ out-roll-InformationObjectField (field_parts (tagging f) (out-InformationObjectField x))

  pub fields_out : (x : InformationObjectFields) → out-InformationObjectFields (rewritten_fields (tagging f) x) ≡ fields_parts (tagging f) (out-InformationObjectFields x)
  fields_out x = ap out-InformationObjectFields (fields_rewritten (tagging f) x) ∙ out-roll-InformationObjectFields (fields_parts (tagging f) (out-InformationObjectFields x))

  pub item_out : (x : SyntaxApplication) → out-SyntaxApplication (rewritten_item (tagging f) x) ≡ item_parts (tagging f) (out-SyntaxApplication x)
  item_out x = ap out-SyntaxApplication (item_rewritten (tagging f) x) ∙ out-roll-SyntaxApplication (item_parts (tagging f) (out-SyntaxApplication x))

  pub value_out : (x : ASN1Value) → out-ASN1Value (tagged_value f x) ≡ value_parts (tagging f) (out-ASN1Value x)
  value_out x = ap out-ASN1Value (value_rewritten (tagging f) x) ∙ out-roll-ASN1Value (value_parts (tagging f) (out-ASN1Value x))

  pub linked_out : (x : LinkedField) → out-LinkedField (rewritten_linked (tagging f) x) ≡ linked_parts (tagging f) (out-LinkedField x)
  linked_out x = ap out-LinkedField (linked_rewritten (tagging f) x) ∙ out-roll-LinkedField (linked_parts (tagging f) (out-LinkedField x))

  -- ---- a tree by its level

  pub type_by_level : (v w : ASN1Type) → out-ASN1Type w ≡ type_parts (tagging f) (out-ASN1Type v) → tagged f v ≡ w
  type_by_level v w e = type_rewritten (tagging f) v ∙ ap roll-ASN1Type (sym e) ∙ roll-out-ASN1Type w

  pub value_by_level : (v w : ASN1Value) → out-ASN1Value w ≡ value_parts (tagging f) (out-ASN1Value v) → tagged_value f v ≡ w
  value_by_level v w e = value_rewritten (tagging f) v ∙ ap roll-ASN1Value (sym e) ∙ roll-out-ASN1Value w

  pub field_by_level : (v w : InformationObjectField) → out-InformationObjectField w ≡ field_parts (tagging f) (out-InformationObjectField v) → rewritten_field (tagging f) v ≡ w
  field_by_level v w e = field_rewritten (tagging f) v ∙ ap roll-InformationObjectField (sym e) ∙ roll-out-InformationObjectField w

  -- ---- kinds

  abbrev pub field_kept : ClassFieldLayer → ClassFieldLayer
  field_kept x = record x { constraints = each_constraint x.constraints }

  abbrev pub reference_kept : ReferenceLayer → ReferenceLayer
  reference_kept x = record x { constraints = each_constraint x.constraints }

  abbrev pub kind_kept : Kind → Kind
  kind_kept (StructKind x) = StructKind (struct_parts (tagging f) x)
  kind_kept (ListKind ty) = ListKind (tagged f ty)
  kind_kept (ChoiceKind options) = ChoiceKind (map (rewritten_option (tagging f)) options)
  kind_kept (FieldKind x) = FieldKind (field_kept x)
  kind_kept (ReferenceKind x) = ReferenceKind (reference_kept x)
  kind_kept k = k

  kind_at_kept : (l : TypeLayer) → kind_at (type_parts (tagging f) l) ≡ kind_kept (kind_at l)
  kind_at_kept (ASN1Type-F.ASN1Type::Choice x) = ap (λ z. ChoiceKind z.options) (choice_out x)
  kind_at_kept (ASN1Type-F.Sequence x) = ap StructKind (struct_out x)
  kind_at_kept (ASN1Type-F.Set x) = ap StructKind (struct_out x)
  kind_at_kept (ASN1Type-F.SequenceOf x) = ap (λ z. ListKind z.element_type) (list_out x)
  kind_at_kept (ASN1Type-F.SetOf x) = ap (λ z. ListKind z.element_type) (list_out x)
  kind_at_kept _ = refl

  pub type_kind_kept : (ty : ASN1Type) → kind_of_type (tagged f ty) ≡ kind_kept (kind_of_type ty)
  type_kind_kept ty = ap kind_at (type_out ty) ∙ kind_at_kept (out-ASN1Type ty)

  constraints_at_kept : (l : TypeLayer) → listed (constraints_at (type_parts (tagging f) l)) ≡ each_constraint (listed (constraints_at l))
  constraints_at_kept (ASN1Type-F.ASN1Type::Choice x) = ap (λ z. z.constraints) (choice_out x)
  constraints_at_kept (ASN1Type-F.Sequence x) = ap (λ z. z.constraints) (struct_out x)
  constraints_at_kept (ASN1Type-F.Set x) = ap (λ z. z.constraints) (struct_out x)
  constraints_at_kept (ASN1Type-F.SequenceOf x) = ap (λ z. z.constraints) (list_out x)
  constraints_at_kept (ASN1Type-F.SetOf x) = ap (λ z. z.constraints) (list_out x)
  constraints_at_kept _ = refl

  pub constraints_kept : (ty : ASN1Type) → listed (constraints_of (tagged f ty)) ≡ each_constraint (listed (constraints_of ty))
  constraints_kept ty = ap (λ l. listed (constraints_at l)) (type_out ty) ∙ constraints_at_kept (out-ASN1Type ty)

  -- ---- written values

  abbrev pub named_kept : List ℕ × ASN1Value → List ℕ × ASN1Value
  named_kept x = (x.0, tagged_value f x.1)

  abbrev pub item_kept : Option (List ℕ) × ASN1Value → Option (List ℕ) × ASN1Value
  item_kept x = (x.0, tagged_value f x.1)

  abbrev pub written_kept : Written → Written
  written_kept (BracesWritten items) = BracesWritten (map item_kept items)
  written_kept (FieldsWritten fields) = FieldsWritten (map named_kept fields)
  written_kept (ElementsWritten vs) = ElementsWritten (map (tagged_value f) vs)
  written_kept (AlternativeWritten name v) = AlternativeWritten name (tagged_value f v)
  written_kept (NestedWritten v) = NestedWritten (tagged_value f v)
  written_kept w = w

  explicit_kept : (x : LinkedLayer) → explicit_field (linked_parts (tagging f) x) ≡ map named_kept (explicit_field x)
  explicit_kept x = go x.value
    where
      go : (v : StructLikeFieldValueOver ASN1Value) → explicit_field (linked_parts (tagging f) (record x { value = v })) ≡ map named_kept (if_explicit x.name v)
      go (Explicit v) = refl
      go (Implicit v) = refl

  pub map_append : {A B : Type 0} (g : A → B) (xs ys : List A) → map g (xs ++ ys) ≡ map g xs ++ map g ys
  map_append g [] ys = refl
  map_append g (x ∷ xs) ys = ap (λ zs. g x ∷ zs) (map_append g xs ys)

  explicits_kept : (xs : List LinkedField) → explicit_fields (map (rewritten_linked (tagging f)) xs) ≡ map named_kept (explicit_fields xs)
  explicits_kept [] = refl
  explicits_kept (x ∷ xs) =
      ap (λ z. explicit_field z ++ explicit_fields (map (rewritten_linked (tagging f)) xs)) (linked_out x)
      ∙ ap (λ z. z ++ explicit_fields (map (rewritten_linked (tagging f)) xs)) (explicit_kept (out-LinkedField x))
      ∙ ap (λ z. map named_kept (explicit_field (out-LinkedField x)) ++ z) (explicits_kept xs)
      ∙ sym (map_append named_kept (explicit_field (out-LinkedField x)) (explicit_fields xs))

  written_at_kept : (l : ValueLayer) → written_at (value_parts (tagging f) l) ≡ written_kept (written_at l)
  written_at_kept (ASN1Value-F.LinkedStructLikeValue xs) = ap FieldsWritten (explicits_kept xs)
  written_at_kept _ = refl

  pub value_written_kept : (v : ASN1Value) → as_written (tagged_value f v) ≡ written_kept (as_written v)
  value_written_kept v = ap written_at (value_out v) ∙ written_at_kept (out-ASN1Value v)
