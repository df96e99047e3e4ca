-- One level of each tree reads the same, with and without the tags that are changed in its parts, where each part does.
use Rattle.std.proofs.Common.{◌≡◌, ℕ, List, [], ◌∷◌, Option, Some, None, map, refl, ap}
use Rattle.asn_tree.specs.declared.constraints.Constraint.{Constraint-F}
use Rattle.asn_tree.specs.declared.constraints.ContentConstraint.{ContentConstraint-F}
use Rattle.asn_tree.specs.declared.constraints.ElementOrSetOperation.{ElementOrSetOperation-F}
use Rattle.asn_tree.specs.declared.constraints.Parameter.{Parameter-F}
use Rattle.asn_tree.specs.declared.constraints.SubtypeElement.{SubtypeElement-F}
use Rattle.asn_tree.specs.declared.objects.InformationObjectField.{InformationObjectField-F}
use Rattle.asn_tree.specs.declared.objects.InformationObjectFields.{InformationObjectFields-F}
use Rattle.asn_tree.specs.declared.objects.SyntaxApplication.{SyntaxApplication-F}
use Rattle.asn_tree.specs.declared.types.ASN1Type.{ASN1Type-F}
use Rattle.asn_tree.specs.declared.values.ASN1Value.{ASN1Value-F}
use Rattle.asn_tree_kinds.specs.declared.constraints.ConstrainedComponentOver.{ConstrainedComponentOver}
use Rattle.asn_tree_kinds.specs.declared.constraints.InnerTypeConstraintOver.{InnerTypeConstraintOver}
use Rattle.asn_tree_kinds.specs.declared.constraints.TableConstraintOver.{TableConstraintOver}
use Rattle.asn_tree_kinds.specs.declared.objects.ObjectSetFieldOver.{ObjectSetFieldOver}
use Rattle.asn_tree_kinds.specs.declared.objects.ObjectSetOver.{ObjectSetOver}
use Rattle.asn_tree_kinds.specs.declared.objects.ObjectSetValueOver.{ObjectSetValueOver}
use Rattle.asn_tree_kinds.specs.declared.objects.ObjectSetValueOver.TheVariants.{Reference, Inline}
use Rattle.asn_tree_kinds.specs.declared.values.StructLikeFieldValueOver.{StructLikeFieldValueOver}
use Rattle.asn_tree_kinds.specs.declared.values.StructLikeFieldValueOver.TheVariants.{Explicit, Implicit}
use Rattle.asn_tree_headers.specs.declared.headers.TaggingEnvironment.{TaggingEnvironment}
use Rattle.asn_tree.specs.Folds.{Steps, of_constraint, constraint_read, of_content, content_read, of_set, set_read, of_parameter, parameter_read, of_element, element_read, of_field, field_read, of_fields, fields_read, of_item, item_read, of_type, type_read, of_value, value_read, of_operation, operation_read, of_choice, choice_read, of_option, option_read, of_struct, struct_read, of_member, member_read, of_list, list_read, of_linked, linked_read}
use Rattle.asn_tree.specs.Layers.{Carriers, ConstraintOver, ContentOver, SetOver, ParameterOver, ElementOver, FieldOver, FieldsOver, ItemOver, TypeOver, ValueOver, OperationOver, ChoiceOver, OptionOver, StructOver, MemberOver, ListOver, LinkedOver}
use Rattle.asn_tree.specs.Passes.{rewritten_constraint, rewritten_content, rewritten_set, rewritten_parameter, rewritten_element, rewritten_field, rewritten_fields, rewritten_item, rewritten_type, rewritten_value, rewritten_operation, rewritten_choice, rewritten_option, rewritten_struct, rewritten_member, rewritten_list, rewritten_linked}
use Rattle.asn_tree.specs.Tagging.{retagging}
use Rattle.asn_meaning_unchanged.proofs.AllTypes.{Shown, proved, bare_constraint, bare_content, bare_set, bare_parameter, bare_element, bare_field, bare_fields, bare_item, bare_type, bare_value, bare_operation, bare_choice, bare_option, bare_struct, bare_member, bare_list, bare_linked}

-- trees that read the same each do so in a list
pub mapped : {T A : Type 0} (r : T → T) (h : T → A) (ys : List ((x : T) × (h (r x) ≡ h x))) →
    map h (map r (map (λ y. y.0) ys)) ≡ map h (map (λ y. y.0) ys)
mapped r h [] = refl
mapped r h (y ∷ ys) = λ i. y.1 i ∷ mapped r h ys i

module _ {c : Carriers} (s : Steps c) (e : TaggingEnvironment) where
  -- a tree reads the same with and without the changed tags
  abbrev pub shown : Shown
  shown =
      record {
        of_constraint = λ x. of_constraint s (rewritten_constraint (retagging e) x) ≡ of_constraint s x;
        of_content = λ x. of_content s (rewritten_content (retagging e) x) ≡ of_content s x;
        of_set = λ x. of_set s (rewritten_set (retagging e) x) ≡ of_set s x;
        of_parameter = λ x. of_parameter s (rewritten_parameter (retagging e) x) ≡ of_parameter s x;
        of_element = λ x. of_element s (rewritten_element (retagging e) x) ≡ of_element s x;
        of_field = λ x. of_field s (rewritten_field (retagging e) x) ≡ of_field s x;
        of_fields = λ x. of_fields s (rewritten_fields (retagging e) x) ≡ of_fields s x;
        of_item = λ x. of_item s (rewritten_item (retagging e) x) ≡ of_item s x;
        of_type = λ x. of_type s (rewritten_type (retagging e) x) ≡ of_type s x;
        of_value = λ x. of_value s (rewritten_value (retagging e) x) ≡ of_value s x;
        of_operation = λ x. of_operation s (rewritten_operation (retagging e) x) ≡ of_operation s x;
        of_choice = λ x. of_choice s (rewritten_choice (retagging e) x) ≡ of_choice s x;
        of_option = λ x. of_option s (rewritten_option (retagging e) x) ≡ of_option s x;
        of_struct = λ x. of_struct s (rewritten_struct (retagging e) x) ≡ of_struct s x;
        of_member = λ x. of_member s (rewritten_member (retagging e) x) ≡ of_member s x;
        of_list = λ x. of_list s (rewritten_list (retagging e) x) ≡ of_list s x;
        of_linked = λ x. of_linked s (rewritten_linked (retagging e) x) ≡ of_linked s x;
      }

  abbrev Part : Carriers
  Part = proved shown

  constraints_same : (ys : List Part.for_constraint) →
      map (of_constraint s) (map (rewritten_constraint (retagging e)) (map (λ y. y.0) ys)) ≡ map (of_constraint s) (map (λ y. y.0) ys)
  constraints_same ys = mapped (rewritten_constraint (retagging e)) (of_constraint s) ys

  -- ---- one level as it reads, with (again) and without (before) the changed tags in its parts

  abbrev pub constraint_again : ConstraintOver Part → ConstraintOver c
  constraint_again y = constraint_read s (constraint_read (retagging e) (bare_constraint shown y))

  abbrev pub constraint_before : ConstraintOver Part → ConstraintOver c
  constraint_before y = constraint_read s (bare_constraint shown y)

  abbrev pub content_again : ContentOver Part → ContentOver c
  content_again y = content_read s (content_read (retagging e) (bare_content shown y))

  abbrev pub content_before : ContentOver Part → ContentOver c
  content_before y = content_read s (bare_content shown y)

  abbrev pub set_again : SetOver Part → SetOver c
  set_again y = set_read s (set_read (retagging e) (bare_set shown y))

  abbrev pub set_before : SetOver Part → SetOver c
  set_before y = set_read s (bare_set shown y)

  abbrev pub parameter_again : ParameterOver Part → ParameterOver c
  parameter_again y = parameter_read s (parameter_read (retagging e) (bare_parameter shown y))

  abbrev pub parameter_before : ParameterOver Part → ParameterOver c
  parameter_before y = parameter_read s (bare_parameter shown y)

  abbrev pub element_again : ElementOver Part → ElementOver c
  element_again y = element_read s (element_read (retagging e) (bare_element shown y))

  abbrev pub element_before : ElementOver Part → ElementOver c
  element_before y = element_read s (bare_element shown y)

  abbrev pub field_again : FieldOver Part → FieldOver c
  field_again y = field_read s (field_read (retagging e) (bare_field shown y))

  abbrev pub field_before : FieldOver Part → FieldOver c
  field_before y = field_read s (bare_field shown y)

  abbrev pub fields_again : FieldsOver Part → FieldsOver c
  fields_again y = fields_read s (fields_read (retagging e) (bare_fields shown y))

  abbrev pub fields_before : FieldsOver Part → FieldsOver c
  fields_before y = fields_read s (bare_fields shown y)

  abbrev pub item_again : ItemOver Part → ItemOver c
  item_again y = item_read s (item_read (retagging e) (bare_item shown y))

  abbrev pub item_before : ItemOver Part → ItemOver c
  item_before y = item_read s (bare_item shown y)

  abbrev pub type_again : TypeOver Part → TypeOver c
  type_again y = type_read s (type_read (retagging e) (bare_type shown y))

  abbrev pub type_before : TypeOver Part → TypeOver c
  type_before y = type_read s (bare_type shown y)

  abbrev pub value_again : ValueOver Part → ValueOver c
  value_again y = value_read s (value_read (retagging e) (bare_value shown y))

  abbrev pub value_before : ValueOver Part → ValueOver c
  value_before y = value_read s (bare_value shown y)

  abbrev pub operation_again : OperationOver Part → OperationOver c
  operation_again y = operation_read s (operation_read (retagging e) (bare_operation shown y))

  abbrev pub operation_before : OperationOver Part → OperationOver c
  operation_before y = operation_read s (bare_operation shown y)

  abbrev pub choice_again : ChoiceOver Part → ChoiceOver c
  choice_again y = choice_read s (choice_read (retagging e) (bare_choice shown y))

  abbrev pub choice_before : ChoiceOver Part → ChoiceOver c
  choice_before y = choice_read s (bare_choice shown y)

  abbrev pub option_again : OptionOver Part → OptionOver c
  option_again y = option_read s (option_read (retagging e) (bare_option shown y))

  abbrev pub option_before : OptionOver Part → OptionOver c
  option_before y = option_read s (bare_option shown y)

  abbrev pub struct_again : StructOver Part → StructOver c
  struct_again y = struct_read s (struct_read (retagging e) (bare_struct shown y))

  abbrev pub struct_before : StructOver Part → StructOver c
  struct_before y = struct_read s (bare_struct shown y)

  abbrev pub member_again : MemberOver Part → MemberOver c
  member_again y = member_read s (member_read (retagging e) (bare_member shown y))

  abbrev pub member_before : MemberOver Part → MemberOver c
  member_before y = member_read s (bare_member shown y)

  abbrev pub list_again : ListOver Part → ListOver c
  list_again y = list_read s (list_read (retagging e) (bare_list shown y))

  abbrev pub list_before : ListOver Part → ListOver c
  list_before y = list_read s (bare_list shown y)

  abbrev pub linked_again : LinkedOver Part → LinkedOver c
  linked_again y = linked_read s (linked_read (retagging e) (bare_linked shown y))

  abbrev pub linked_before : LinkedOver Part → LinkedOver c
  linked_before y = linked_read s (bare_linked shown y)

  -- ---- both read the same. A list in a part of its own is put together from its first item and what is behind it.

  -- the set of a table constraint, item by item
  abbrev table_item : ObjectSetValueOver c.for_fields → ConstraintOver c → ConstraintOver c
  table_item v (Constraint-F.TableConstraint x) =
      Constraint-F.TableConstraint (record x { object_set = record x.object_set { values = v ∷ x.object_set.values } })
  table_item v x = x

  table_same : (x : TableConstraintOver Part.for_fields) (vs : List (ObjectSetValueOver Part.for_fields)) →
      constraint_again (Constraint-F.TableConstraint (record x { object_set = record x.object_set { values = vs } }))
      ≡ constraint_before (Constraint-F.TableConstraint (record x { object_set = record x.object_set { values = vs } }))
  table_same x [] = refl
  table_same x (Reference name ∷ vs) = ap (table_item (Reference name)) (table_same x vs)
  table_same x (Inline f ∷ vs) = λ i. table_item (Inline (f.1 i)) (table_same x vs i)

  pub constraint_same : (y : ConstraintOver Part) → constraint_again y ≡ constraint_before y
  constraint_same (Constraint-F.SubtypeConstraint x) = λ i. Constraint-F.SubtypeConstraint (record { extensible = x.extensible; set = x.set.1 i })
  constraint_same (Constraint-F.TableConstraint x) = table_same x x.object_set.values
  constraint_same (Constraint-F.Parameter xs) = ap Constraint-F.Parameter (mapped (rewritten_parameter (retagging e)) (of_parameter s) xs)
  constraint_same (Constraint-F.ContentConstraint x) = ap Constraint-F.ContentConstraint x.1

  pub content_same : (y : ContentOver Part) → content_again y ≡ content_before y
  content_same (ContentConstraint-F.Containing x) = ap ContentConstraint-F.Containing x.1
  content_same (ContentConstraint-F.EncodedBy v) = ap ContentConstraint-F.EncodedBy v.1
  content_same (ContentConstraint-F.ContainingEncodedBy x v) = λ i. ContentConstraint-F.ContainingEncodedBy (x.1 i) (v.1 i)

  pub set_same : (y : SetOver Part) → set_again y ≡ set_before y
  set_same (ElementOrSetOperation-F.Element x) = ap ElementOrSetOperation-F.Element x.1
  set_same (ElementOrSetOperation-F.SetOperation x) = ap ElementOrSetOperation-F.SetOperation x.1

  -- a set as an argument, item by item
  abbrev argument_item : ObjectSetValueOver c.for_fields → ParameterOver c → ParameterOver c
  argument_item v (Parameter-F.ObjectSetParameter x) = Parameter-F.ObjectSetParameter (record x { values = v ∷ x.values })
  argument_item v x = x

  argument_same : (x : ObjectSetOver Part.for_fields) (vs : List (ObjectSetValueOver Part.for_fields)) →
      parameter_again (Parameter-F.ObjectSetParameter (record x { values = vs }))
      ≡ parameter_before (Parameter-F.ObjectSetParameter (record x { values = vs }))
  argument_same x [] = refl
  argument_same x (Reference name ∷ vs) = ap (argument_item (Reference name)) (argument_same x vs)
  argument_same x (Inline f ∷ vs) = λ i. argument_item (Inline (f.1 i)) (argument_same x vs i)

  pub parameter_same : (y : ParameterOver Part) → parameter_again y ≡ parameter_before y
  parameter_same (Parameter-F.ValueParameter x) = ap Parameter-F.ValueParameter x.1
  parameter_same (Parameter-F.TypeParameter x) = ap Parameter-F.TypeParameter x.1
  parameter_same (Parameter-F.InformationObjectParameter x) = ap Parameter-F.InformationObjectParameter x.1
  parameter_same (Parameter-F.ObjectSetParameter x) = argument_same x x.values

  -- the components that WITH COMPONENTS lists, one by one
  abbrev component_item : ConstrainedComponentOver c.for_constraint → ElementOver c → ElementOver c
  component_item v (SubtypeElement-F.MultipleTypeConstraints x) =
      SubtypeElement-F.MultipleTypeConstraints (record x { constraints = v ∷ x.constraints })
  component_item v x = x

  components_same : (x : InnerTypeConstraintOver Part.for_constraint) (vs : List (ConstrainedComponentOver Part.for_constraint)) →
      element_again (SubtypeElement-F.MultipleTypeConstraints (record x { constraints = vs }))
      ≡ element_before (SubtypeElement-F.MultipleTypeConstraints (record x { constraints = vs }))
  components_same x [] = refl
  components_same x (v ∷ vs) =
      λ i.
      component_item (record { identifier = v.identifier; constraints = constraints_same v.constraints i; presence = v.presence })
      (components_same x vs i)

  pub element_same : (y : ElementOver Part) → element_again y ≡ element_before y
  element_same (SubtypeElement-F.SingleValue v extensible) = λ i. SubtypeElement-F.SingleValue (v.1 i) extensible
  element_same (SubtypeElement-F.ContainedSubtype x extensible) = λ i. SubtypeElement-F.ContainedSubtype (x.1 i) extensible
  element_same (SubtypeElement-F.ValueRange None None a b x) = refl
  element_same (SubtypeElement-F.ValueRange None (Some w) a b x) = λ i. SubtypeElement-F.ValueRange None (Some (w.1 i)) a b x
  element_same (SubtypeElement-F.ValueRange (Some v) None a b x) = λ i. SubtypeElement-F.ValueRange (Some (v.1 i)) None a b x
  element_same (SubtypeElement-F.ValueRange (Some v) (Some w) a b x) = λ i. SubtypeElement-F.ValueRange (Some (v.1 i)) (Some (w.1 i)) a b x
  element_same (SubtypeElement-F.PermittedAlphabet x) = ap SubtypeElement-F.PermittedAlphabet x.1
  element_same (SubtypeElement-F.SizeConstraint x) = ap SubtypeElement-F.SizeConstraint x.1
  element_same (SubtypeElement-F.TypeConstraint x) = ap SubtypeElement-F.TypeConstraint x.1
  element_same (SubtypeElement-F.SingleTypeConstraint xs) = ap SubtypeElement-F.SingleTypeConstraint (constraints_same xs)
  element_same (SubtypeElement-F.MultipleTypeConstraints x) = components_same x x.constraints
  element_same (SubtypeElement-F.PatternConstraint x) = refl
  element_same (SubtypeElement-F.UserDefinedConstraint x) = refl
  element_same (SubtypeElement-F.PropertySettings x) = refl

  -- a set as a field, item by item
  abbrev field_set_item : ObjectSetValueOver c.for_fields → FieldOver c → FieldOver c
  field_set_item v (InformationObjectField-F.ObjectSetField x) =
      InformationObjectField-F.ObjectSetField (record x { value = record x.value { values = v ∷ x.value.values } })
  field_set_item v x = x

  field_set_same : (x : ObjectSetFieldOver Part.for_fields) (vs : List (ObjectSetValueOver Part.for_fields)) →
      field_again (InformationObjectField-F.ObjectSetField (record x { value = record x.value { values = vs } }))
      ≡ field_before (InformationObjectField-F.ObjectSetField (record x { value = record x.value { values = vs } }))
  field_set_same x [] = refl
  field_set_same x (Reference name ∷ vs) = ap (field_set_item (Reference name)) (field_set_same x vs)
  field_set_same x (Inline f ∷ vs) = λ i. field_set_item (Inline (f.1 i)) (field_set_same x vs i)

  pub field_same : (y : FieldOver Part) → field_again y ≡ field_before y
  field_same (InformationObjectField-F.TypeField x) = λ i. InformationObjectField-F.TypeField (record { identifier = x.identifier; ty = x.ty.1 i })
  field_same (InformationObjectField-F.FixedValueField x) =
      λ i. InformationObjectField-F.FixedValueField (record { identifier = x.identifier; value = x.value.1 i })
  field_same (InformationObjectField-F.ObjectSetField x) = field_set_same x x.value.values

  pub fields_same : (y : FieldsOver Part) → fields_again y ≡ fields_before y
  fields_same (InformationObjectFields-F.DefaultSyntax xs) =
      ap InformationObjectFields-F.DefaultSyntax (mapped (rewritten_field (retagging e)) (of_field s) xs)
  fields_same (InformationObjectFields-F.CustomSyntax xs) =
      ap InformationObjectFields-F.CustomSyntax (mapped (rewritten_item (retagging e)) (of_item s) xs)

  -- a set behind a word, item by item
  abbrev declared_item : ObjectSetValueOver c.for_fields → ItemOver c → ItemOver c
  declared_item v (SyntaxApplication-F.ObjectSetDeclaration x) = SyntaxApplication-F.ObjectSetDeclaration (record x { values = v ∷ x.values })
  declared_item v x = x

  declared_same : (x : ObjectSetOver Part.for_fields) (vs : List (ObjectSetValueOver Part.for_fields)) →
      item_again (SyntaxApplication-F.ObjectSetDeclaration (record x { values = vs }))
      ≡ item_before (SyntaxApplication-F.ObjectSetDeclaration (record x { values = vs }))
  declared_same x [] = refl
  declared_same x (Reference name ∷ vs) = ap (declared_item (Reference name)) (declared_same x vs)
  declared_same x (Inline f ∷ vs) = λ i. declared_item (Inline (f.1 i)) (declared_same x vs i)

  pub item_same : (y : ItemOver Part) → item_again y ≡ item_before y
  item_same (SyntaxApplication-F.ObjectSetDeclaration x) = declared_same x x.values
  item_same (SyntaxApplication-F.ValueReference x) = ap SyntaxApplication-F.ValueReference x.1
  item_same (SyntaxApplication-F.TypeReference x) = ap SyntaxApplication-F.TypeReference x.1
  item_same SyntaxApplication-F.Comma = refl
  item_same (SyntaxApplication-F.Literal x) = refl
  item_same (SyntaxApplication-F.LiteralOrTypeReference x) =
      λ i.
      SyntaxApplication-F.LiteralOrTypeReference
      (record { parent = x.parent; identifier = x.identifier; constraints = constraints_same x.constraints i })

  pub type_same : (y : TypeOver Part) → type_again y ≡ type_before y
  type_same ASN1Type-F.ASN1Type::Null = refl
  type_same (ASN1Type-F.ASN1Type::Boolean x) = λ i. ASN1Type-F.ASN1Type::Boolean (record { constraints = constraints_same x.constraints i })
  type_same (ASN1Type-F.ASN1Type::Integer x) =
      λ i. ASN1Type-F.ASN1Type::Integer (record { distinguished_values = x.distinguished_values; constraints = constraints_same x.constraints i })
  type_same (ASN1Type-F.ASN1Type::Real x) = λ i. ASN1Type-F.ASN1Type::Real (record { constraints = constraints_same x.constraints i })
  type_same (ASN1Type-F.ASN1Type::BitString x) =
      λ i. ASN1Type-F.ASN1Type::BitString (record { distinguished_values = x.distinguished_values; constraints = constraints_same x.constraints i })
  type_same (ASN1Type-F.ASN1Type::OctetString x) = λ i. ASN1Type-F.ASN1Type::OctetString (record { constraints = constraints_same x.constraints i })
  type_same (ASN1Type-F.CharacterString x) = λ i. ASN1Type-F.CharacterString (record { ty = x.ty; constraints = constraints_same x.constraints i })
  type_same (ASN1Type-F.Enumerated x) =
      λ i. ASN1Type-F.Enumerated (record { members = x.members; extensible = x.extensible; constraints = constraints_same x.constraints i })
  type_same (ASN1Type-F.ASN1Type::Choice x) = ap ASN1Type-F.ASN1Type::Choice x.1
  type_same (ASN1Type-F.Sequence x) = ap ASN1Type-F.Sequence x.1
  type_same (ASN1Type-F.SequenceOf x) = ap ASN1Type-F.SequenceOf x.1
  type_same (ASN1Type-F.Set x) = ap ASN1Type-F.Set x.1
  type_same (ASN1Type-F.SetOf x) = ap ASN1Type-F.SetOf x.1
  type_same (ASN1Type-F.ASN1Type::Time x) = λ i. ASN1Type-F.ASN1Type::Time (record { constraints = constraints_same x.constraints i })
  type_same (ASN1Type-F.GeneralizedTime x) = λ i. ASN1Type-F.GeneralizedTime (record { constraints = constraints_same x.constraints i })
  type_same (ASN1Type-F.UTCTime x) = λ i. ASN1Type-F.UTCTime (record { constraints = constraints_same x.constraints i })
  type_same (ASN1Type-F.ElsewhereDeclaredType x) =
      λ i. ASN1Type-F.ElsewhereDeclaredType (record { parent = x.parent; identifier = x.identifier; constraints = constraints_same x.constraints i })
  type_same (ASN1Type-F.ChoiceSelectionType x) = refl
  type_same (ASN1Type-F.ASN1Type::ObjectIdentifier x) =
      λ i. ASN1Type-F.ASN1Type::ObjectIdentifier (record { constraints = constraints_same x.constraints i })
  type_same (ASN1Type-F.InformationObjectFieldReference x) =
      λ i.
      ASN1Type-F.InformationObjectFieldReference
      (record { class = x.class; field_path = x.field_path; constraints = constraints_same x.constraints i })
  type_same ASN1Type-F.EmbeddedPdv = refl
  type_same ASN1Type-F.External = refl

  -- items in braces, one by one
  abbrev brace_item : Option (List ℕ) × c.for_value → ValueOver c → ValueOver c
  brace_item v (ASN1Value-F.SequenceOrSet xs) = ASN1Value-F.SequenceOrSet (v ∷ xs)
  brace_item v x = x

  parts_same : (xs : List (Option (List ℕ) × Part.for_value)) →
      value_again (ASN1Value-F.SequenceOrSet xs) ≡ value_before (ASN1Value-F.SequenceOrSet xs)
  parts_same [] = refl
  parts_same (x ∷ xs) = λ i. brace_item (x.0, x.1.1 i) (parts_same xs i)

  pub value_same : (y : ValueOver Part) → value_again y ≡ value_before y
  value_same ASN1Value-F.All = refl
  value_same ASN1Value-F.ASN1Value::Null = refl
  value_same (ASN1Value-F.ASN1Value::Boolean x) = refl
  value_same (ASN1Value-F.ASN1Value::Choice t n x) = λ i. ASN1Value-F.ASN1Value::Choice t n (x.1 i)
  value_same (ASN1Value-F.SequenceOrSet xs) = parts_same xs
  value_same (ASN1Value-F.ASN1Value::Integer x) = refl
  value_same (ASN1Value-F.ASN1Value::Real x) = refl
  value_same (ASN1Value-F.String x) = refl
  value_same (ASN1Value-F.ASN1Value::BitString x) = refl
  value_same (ASN1Value-F.BitStringNamedBits x) = refl
  value_same (ASN1Value-F.ASN1Value::OctetString x) = refl
  value_same (ASN1Value-F.EnumeratedValue x y) = refl
  value_same (ASN1Value-F.ASN1Value::Time x) = refl
  value_same (ASN1Value-F.ElsewhereDeclaredValue x y) = refl
  value_same (ASN1Value-F.ASN1Value::ObjectIdentifier x) = refl
  value_same (ASN1Value-F.LinkedNestedValue ns x) = λ i. ASN1Value-F.LinkedNestedValue ns (x.1 i)
  value_same (ASN1Value-F.LinkedIntValue x y) = refl
  value_same (ASN1Value-F.LinkedStructLikeValue xs) = ap ASN1Value-F.LinkedStructLikeValue (mapped (rewritten_linked (retagging e)) (of_linked s) xs)
  value_same (ASN1Value-F.LinkedArrayLikeValue xs) = ap ASN1Value-F.LinkedArrayLikeValue (mapped (rewritten_value (retagging e)) (of_value s) xs)
  value_same (ASN1Value-F.LinkedCharStringValue x y) = refl
  value_same (ASN1Value-F.LinkedElsewhereDefinedValue x y z) = refl

  pub operation_same : (y : OperationOver Part) → operation_again y ≡ operation_before y
  operation_same y = λ i. record (operation_before y) { base = y.base.1 i; operant = y.operant.1 i }

  pub choice_same : (y : ChoiceOver Part) → choice_again y ≡ choice_before y
  choice_same y =
      λ i.
      record (choice_before y) {
        options = mapped (rewritten_option (retagging e)) (of_option s) y.options i;
        constraints = constraints_same y.constraints i;
      }

  pub option_same : (y : OptionOver Part) → option_again y ≡ option_before y
  option_same y = λ i. record (option_before y) { ty = y.ty.1 i; constraints = constraints_same y.constraints i }

  pub struct_same : (y : StructOver Part) → struct_again y ≡ struct_before y
  struct_same y =
      λ i.
      record (struct_before y) {
        members = mapped (rewritten_member (retagging e)) (of_member s) y.members i;
        constraints = constraints_same y.constraints i;
      }

  pub member_same : (y : MemberOver Part) → member_again y ≡ member_before y
  member_same y = go y.default_value
    where
      go : (v : Option Part.for_value) → member_again (record y { default_value = v }) ≡ member_before (record y { default_value = v })
      go None = λ i. record (member_before y) { default_value = None; ty = y.ty.1 i; constraints = constraints_same y.constraints i }
      go (Some v) = λ i. record (member_before y) { default_value = Some (v.1 i); ty = y.ty.1 i; constraints = constraints_same y.constraints i }

  pub list_same : (y : ListOver Part) → list_again y ≡ list_before y
  list_same y = λ i. record (list_before y) { element_type = y.element_type.1 i; constraints = constraints_same y.constraints i }

  pub linked_same : (y : LinkedOver Part) → linked_again y ≡ linked_before y
  linked_same y = go y.value
    where
      go : (v : StructLikeFieldValueOver Part.for_value) → linked_again (record y { value = v }) ≡ linked_before (record y { value = v })
      go (Explicit v) = λ i. record (linked_before y) { value = Explicit (v.1 i); ty = y.ty.1 i }
      go (Implicit v) = λ i. record (linked_before y) { value = Implicit (v.1 i); ty = y.ty.1 i }
