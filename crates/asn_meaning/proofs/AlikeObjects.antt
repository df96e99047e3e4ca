-- What names see, classes and objects, where tags differ.
use Rattle.std.specs.Prelude.{pos}
use Rattle.std.specs.List.{find}
use Rattle.std.specs.Option.{option_map}
use Rattle.std.specs.Str.{bytes_eq}
use Rattle.std.proofs.Common.{◌≡◌, ℕ, ℤ, Bool, true, false, List, [], ◌∷◌, ◌++◌, map, Option, Some, None, refl, sym, subst, ap, ◌∙◌}
use Rattle.std.specs.Prelude.{if◌then◌else◌}
use Rattle.std.specs.Str.Parse.{digits_value}
use Rattle.asn_tree.specs.Passes.{field_parts, fields_parts, item_parts, rewritten_field, rewritten_item, type_parts, value_parts}
use Rattle.asn_tree_kinds.specs.declared.objects.ObjectSetOver.{ObjectSetOver}
use Rattle.asn_tree.specs.declared.values.ASN1Value.{ASN1Value}
use Rattle.asn_tree.specs.declared.values.ASN1Value.TheVariants as value
use Rattle.asn_tree.specs.declared.definitions.Parameterization.{Parameterization}
use Rattle.asn_tree.specs.declared.definitions.ToplevelDefinition.{ToplevelDefinition}
use Rattle.asn_tree.specs.declared.definitions.ToplevelDefinition.TheVariants.{TypeDef, Value, Information}
use Rattle.asn_tree.specs.declared.definitions.ToplevelInformationDefinition.{ToplevelInformationDefinition}
use Rattle.asn_tree.specs.declared.definitions.ToplevelTypeDefinition.{ToplevelTypeDefinition}
use Rattle.asn_tree.specs.declared.definitions.ToplevelValueDefinition.{ToplevelValueDefinition}
use Rattle.asn_tree.specs.declared.objects.ASN1Information.{ASN1Information}
use Rattle.asn_tree.specs.declared.objects.ASN1Information.TheVariants.{ObjectClass, ObjectSet, Object}
use Rattle.asn_tree.specs.declared.objects.InformationObject.{InformationObject}
use Rattle.asn_tree.specs.declared.objects.InformationObjectClass.{InformationObjectClass}
use Rattle.asn_tree.specs.declared.objects.InformationObjectField.{InformationObjectField, InformationObjectField-F, out-InformationObjectField}
use Rattle.asn_tree.specs.declared.objects.InformationObjectField.TheVariants as gives
use Rattle.asn_tree.specs.declared.objects.InformationObjectFields.{InformationObjectFields, InformationObjectFields-F, out-InformationObjectFields}
use Rattle.asn_tree_leaves.specs.declared.objects.InformationObjectSyntax.{InformationObjectSyntax}
use Rattle.asn_tree_leaves.specs.declared.objects.ObjectFieldIdentifier.{ObjectFieldIdentifier}
use Rattle.asn_tree_leaves.specs.declared.objects.ObjectFieldIdentifier.TheVariants.{SingleValue, MultipleValue}
use Rattle.asn_tree.specs.declared.objects.SyntaxApplication.{SyntaxApplication, SyntaxApplication-F, out-SyntaxApplication}
use Rattle.asn_tree_leaves.specs.declared.objects.SyntaxExpression.{SyntaxExpression, SyntaxExpression-F, fold-roll-SyntaxExpression, ind-SyntaxExpression, map-SyntaxExpression}
use Rattle.asn_tree_leaves.specs.declared.objects.SyntaxToken.{SyntaxToken}
use Rattle.asn_tree_leaves.specs.declared.objects.SyntaxToken.TheVariants.{Literal, Comma, Field}
use Rattle.asn_tree.specs.declared.types.ASN1Type.{ASN1Type}
use Rattle.asn_tree.specs.declared.types.ASN1Type.TheVariants as type_of_kind
use Rattle.asn_tree_notation.specs.Paths.{field_name}
use Rattle.asn_tree_notation.specs.Syntax.{given_name, given_name_at, gives_type_at, gives_value_at, is_comma_at, is_word_at, later_tokens, matches, up_to_required}
use Rattle.asn_meaning.specs.Answers.{once}
use Rattle.asn_meaning.specs.Definitions.{Definitions, type_in, type_named, value_in, value_named, unless_template, information_in, information_named, class_in, is_class, class_named, object_in, object_named}
use Rattle.asn_meaning.specs.Layers.{FieldLayer, FieldsLayer, ItemLayer, ReferenceLayer}
use Rattle.asn_meaning.specs.Objects.{Part, part_at, part_of, begins, optional_tokens, tokens_in, field_of, field_at_path, number_word, type_given, value_given, item_gives, take_item, follow_each, applied, if_ended, given_at, given}
use Rattle.asn_meaning.specs.Tags.{TagChange, BothAlike, DifferInTags, IsRetagged, tagged, tagged_class, tagged_class_field, tagged_fields, tagged_information, tagged_parameters, tagged_value, tagging}
use Rattle.asn_meaning.proofs.Alike.{once_alike, once_both, is_some_alike, mapped_alike, once_same, once_through, find_mapped, if_mapped}
use Rattle.asn_meaning.proofs.TagLayers.{field_by_level, field_out, fields_out, item_out, map_append, reference_kept, type_by_level, value_by_level}

-- ---- what names see

abbrev pub TypesAlike : ToplevelTypeDefinition → ToplevelTypeDefinition → Type 0
TypesAlike d e = (f : TagChange) × (e.ty ≡ tagged f d.ty) × (e.parameterization ≡ option_map (tagged_parameters f) d.parameterization)

abbrev pub ValuesAlike : ToplevelValueDefinition → ToplevelValueDefinition → Type 0
ValuesAlike d e = (f : TagChange) × (e.associated_type ≡ tagged f d.associated_type) × (e.value ≡ tagged_value f d.value)

abbrev pub InformationAlike : ToplevelInformationDefinition → ToplevelInformationDefinition → Type 0
InformationAlike d e = (f : TagChange) × (e.value ≡ tagged_information f d.value) × (e.parameterization ≡ option_map (tagged_parameters f) d.parameterization)

abbrev pub ClassesAlike : InformationObjectClass → InformationObjectClass → Type 0
ClassesAlike c k = (f : TagChange) × (k ≡ tagged_class f c)

abbrev pub ObjectsAlike : InformationObject → InformationObject → Type 0
ObjectsAlike o p = (f : TagChange) × (p ≡ record o { fields = tagged_fields f o.fields })

abbrev pub FieldsAlike : InformationObjectField → InformationObjectField → Type 0
FieldsAlike x y = (f : TagChange) × (y ≡ rewritten_field (tagging f) x)

type_in_alike : (x y : ToplevelDefinition) → IsRetagged x y → BothAlike TypesAlike (type_in x) (type_in y)
type_in_alike (TypeDef d) y (f, tag, index, e) = subst (λ z. BothAlike TypesAlike (Some d) (type_in z)) (sym e) (_, (f, refl, refl), refl)
type_in_alike (Value d) y (f, index, e) = ap type_in e
type_in_alike (Information d) y (f, link, index, e) = ap type_in e

template_alike : {A : Type 0} (R : A → A → Type 0) (f : TagChange) (o : Option Parameterization) (x y : A) → R x y → BothAlike R (unless_template o x) (unless_template (option_map (tagged_parameters f) o) y)
template_alike R f None x y r = (y, r, refl)
template_alike R f (Some p) x y r = refl

value_in_alike : (x y : ToplevelDefinition) → IsRetagged x y → BothAlike ValuesAlike (value_in x) (value_in y)
value_in_alike (TypeDef d) y (f, tag, index, e) = ap value_in e
value_in_alike (Value d) y (f, index, e) = subst (λ z. BothAlike ValuesAlike (value_in (Value d)) (value_in z)) (sym e) (template_alike ValuesAlike f d.parameterization d _ (f, refl, refl))
value_in_alike (Information d) y (f, link, index, e) = ap value_in e

information_in_alike : (x y : ToplevelDefinition) → IsRetagged x y → BothAlike InformationAlike (information_in x) (information_in y)
information_in_alike (TypeDef d) y (f, tag, index, e) = ap information_in e
information_in_alike (Value d) y (f, index, e) = ap information_in e
information_in_alike (Information d) y (f, link, index, e) = subst (λ z. BothAlike InformationAlike (Some d) (information_in z)) (sym e) (_, (f, refl, refl), refl)

class_in_alike : (f : TagChange) (v : ASN1Information) → BothAlike ClassesAlike (class_in v) (class_in (tagged_information f v))
class_in_alike f (ObjectClass c) = (tagged_class f c, (f, refl), refl)
class_in_alike f (ObjectSet s) = refl
class_in_alike f (Object o) = refl

object_in_alike : (f : TagChange) (v : ASN1Information) → BothAlike ObjectsAlike (object_in v) (object_in (tagged_information f v))
object_in_alike f (ObjectClass c) = refl
object_in_alike f (ObjectSet s) = refl
object_in_alike f (Object o) = (record o { fields = tagged_fields f o.fields }, (f, refl), refl)

module _ (defs others : Definitions) (seen : DifferInTags defs others) where
  pub type_alike : (name : List ℕ) → BothAlike TypesAlike (type_named defs name) (type_named others name)
  type_alike name = once_both IsRetagged TypesAlike _ _ _ _ (seen name) type_in_alike

  pub value_alike : (name : List ℕ) → BothAlike ValuesAlike (value_named defs name) (value_named others name)
  value_alike name = once_both IsRetagged ValuesAlike _ _ _ _ (seen name) value_in_alike

  information_alike : (name : List ℕ) → BothAlike InformationAlike (information_named defs name) (information_named others name)
  information_alike name = once_both IsRetagged InformationAlike _ _ _ _ (seen name) information_in_alike

  its_class : (d e : ToplevelInformationDefinition) → InformationAlike d e → BothAlike ClassesAlike (class_in d.value) (class_in e.value)
  its_class d e (f, v, p) = subst (λ z. BothAlike ClassesAlike (class_in d.value) (class_in z)) (sym v) (class_in_alike f d.value)

  its_object : (d e : ToplevelInformationDefinition) → InformationAlike d e → BothAlike ObjectsAlike (object_in d.value) (object_in e.value)
  its_object d e (f, v, p) = subst (λ z. BothAlike ObjectsAlike (object_in d.value) (object_in z)) (sym v) (object_in_alike f d.value)

  pub is_class_alike : (name : List ℕ) → is_class others name ≡ is_class defs name
  is_class_alike name = is_some_alike ClassesAlike _ _ (once_both InformationAlike ClassesAlike _ _ (λ d. class_in d.value) (λ d. class_in d.value) (information_alike name) its_class)

  by_template : {A : Type 0} (R : A → A → Type 0) (d e : ToplevelInformationDefinition) → InformationAlike d e → (x y : A) → R x y → BothAlike R (unless_template d.parameterization x) (unless_template e.parameterization y)
  by_template R d e (f, v, p) x y r = subst (λ z. BothAlike R (unless_template d.parameterization x) (unless_template z y)) (sym p) (template_alike R f d.parameterization x y r)

  pub class_alike : (name : List ℕ) → BothAlike ClassesAlike (class_named defs name) (class_named others name)
  class_alike name = once_both InformationAlike ClassesAlike _ _ _ _ (information_alike name) (λ d e r. once_both ClassesAlike ClassesAlike _ _ _ _ (its_class d e r) (by_template ClassesAlike d e r))

  pub object_alike : (name : List ℕ) → BothAlike ObjectsAlike (object_named defs name) (object_named others name)
  object_alike name = once_both InformationAlike ObjectsAlike _ _ _ _ (information_alike name) (λ d e r. once_both ObjectsAlike ObjectsAlike _ _ _ _ (its_object d e r) (by_template ObjectsAlike d e r))

-- ---- classes

module _ (f : TagChange) where
  pub field_of_kept : (c : InformationObjectClass) (name : List ℕ) → field_of (tagged_class f c) name ≡ option_map (tagged_class_field f) (field_of c name)
  field_of_kept c name = find_mapped (tagged_class_field f) _ _ (λ x. refl) c.fields

  pub path_kept : (c : InformationObjectClass) (path : List ObjectFieldIdentifier) → field_at_path (tagged_class f c) path ≡ option_map (tagged_class_field f) (field_at_path c path)
  path_kept c [] = refl
  path_kept c (name ∷ []) = field_of_kept c (field_name name)
  path_kept c (name ∷ next ∷ names) =
      ap (λ o. once None o (λ x. field_at_path (tagged_class f c) (next ∷ names))) (field_of_kept c (field_name name))
      ∙ once_through (tagged_class_field f) (tagged_class_field f) (field_of c (field_name name)) _ _ (λ x. path_kept c (next ∷ names))

  -- ---- objects in the class's own syntax

  abbrev each_field : List InformationObjectField → List InformationObjectField
  each_field xs = map (rewritten_field (tagging f)) xs

  abbrev each_item : List SyntaxApplication → List SyntaxApplication
  each_item xs = map (rewritten_item (tagging f)) xs

  abbrev both_kept : List InformationObjectField × List SyntaxApplication → List InformationObjectField × List SyntaxApplication
  both_kept x = (each_field x.0, each_item x.1)

  comma_kept : (l : ItemLayer) → is_comma_at (item_parts (tagging f) l) ≡ is_comma_at l
  comma_kept SyntaxApplication-F.Comma = refl
  comma_kept _ = refl

  word_kept : (word : List ℕ) (l : ItemLayer) → is_word_at word (item_parts (tagging f) l) ≡ is_word_at word l
  word_kept word (SyntaxApplication-F.Literal text) = refl
  word_kept word _ = refl

  gives_type_kept : (next : List SyntaxToken) (l : ItemLayer) → gives_type_at next (item_parts (tagging f) l) ≡ gives_type_at next l
  gives_type_kept next (SyntaxApplication-F.TypeReference ty) = refl
  gives_type_kept next _ = refl

  gives_value_kept : (l : ItemLayer) → gives_value_at (item_parts (tagging f) l) ≡ gives_value_at l
  gives_value_kept (SyntaxApplication-F.ValueReference v) = refl
  gives_value_kept _ = refl

  matches_kept : (x : SyntaxApplication) (token : SyntaxToken) (syntax : List (Bool × SyntaxToken)) (index : ℕ) → matches (rewritten_item (tagging f) x) token syntax index ≡ matches x token syntax index
  matches_kept x Comma syntax index = ap is_comma_at (item_out f x) ∙ comma_kept (out-SyntaxApplication x)
  matches_kept x (Literal word) syntax index = ap (is_word_at word) (item_out f x) ∙ word_kept word (out-SyntaxApplication x)
  matches_kept x (Field (MultipleValue name)) syntax index = ap (gives_type_at (up_to_required (later_tokens index syntax))) (item_out f x) ∙ gives_type_kept (up_to_required (later_tokens index syntax)) (out-SyntaxApplication x)
  matches_kept x (Field (SingleValue name)) syntax index = ap gives_value_at (item_out f x) ∙ gives_value_kept (out-SyntaxApplication x)

  pub reference_type_kept : (x : ReferenceLayer) → tagged f (type_of_kind.ElsewhereDeclaredType x) ≡ type_of_kind.ElsewhereDeclaredType (reference_kept f x)
  reference_type_kept x = type_by_level f (type_of_kind.ElsewhereDeclaredType x) (type_of_kind.ElsewhereDeclaredType (reference_kept f x)) (type_of_kind.outs-ElsewhereDeclaredType (reference_kept f x) ∙ ap (type_parts (tagging f)) (sym (type_of_kind.outs-ElsewhereDeclaredType x)))

  abbrev set_in : ObjectSetOver InformationObjectFields → ItemLayer → ObjectSetOver InformationObjectFields
  set_in set (SyntaxApplication-F.ObjectSetDeclaration x) = x
  set_in set _ = set

  abbrev set_kept : ObjectSetOver InformationObjectFields → ObjectSetOver InformationObjectFields
  set_kept set = set_in set (item_parts (tagging f) (SyntaxApplication-F.ObjectSetDeclaration set))

  set_field_kept : (name : List ℕ) (set : ObjectSetOver InformationObjectFields) → rewritten_field (tagging f) (gives.ObjectSetField (record { identifier = name; value = set })) ≡ gives.ObjectSetField (record { identifier = name; value = set_kept set })
  set_field_kept name set = field_by_level f _ (gives.ObjectSetField (record { identifier = name; value = set_kept set })) (gives.outs-ObjectSetField (record { identifier = name; value = set_kept set }) ∙ ap (field_parts (tagging f)) (sym (gives.outs-ObjectSetField (record { identifier = name; value = set }))))

  type_field_kept : (name : List ℕ) (ty : ASN1Type) → rewritten_field (tagging f) (gives.TypeField (record { identifier = name; ty = ty })) ≡ gives.TypeField (record { identifier = name; ty = tagged f ty })
  type_field_kept name ty = field_by_level f _ (gives.TypeField (record { identifier = name; ty = tagged f ty })) (gives.outs-TypeField (record { identifier = name; ty = tagged f ty }) ∙ ap (field_parts (tagging f)) (sym (gives.outs-TypeField (record { identifier = name; ty = ty }))))

  value_field_kept : (name : List ℕ) (v : ASN1Value) → rewritten_field (tagging f) (gives.FixedValueField (record { identifier = name; value = v })) ≡ gives.FixedValueField (record { identifier = name; value = tagged_value f v })
  value_field_kept name v = field_by_level f _ (gives.FixedValueField (record { identifier = name; value = tagged_value f v })) (gives.outs-FixedValueField (record { identifier = name; value = tagged_value f v }) ∙ ap (field_parts (tagging f)) (sym (gives.outs-FixedValueField (record { identifier = name; value = v }))))

  pub number_kept : (i : ℤ) → tagged_value f (value.Integer i) ≡ value.Integer i
  number_kept i = value_by_level f _ (value.Integer i) (value.outs-Integer i ∙ ap (value_parts (tagging f)) (sym (value.outs-Integer i)))

  type_given_kept : (name : List ℕ) (l : ItemLayer) → type_given name (item_parts (tagging f) l) ≡ each_field (type_given name l)
  type_given_kept name (SyntaxApplication-F.ObjectSetDeclaration set) = ap (λ z. z ∷ []) (sym (set_field_kept name set))
  type_given_kept name (SyntaxApplication-F.TypeReference ty) = ap (λ z. z ∷ []) (sym (type_field_kept name ty))
  type_given_kept name (SyntaxApplication-F.LiteralOrTypeReference x) =
      ap (λ t. gives.TypeField (record { identifier = name; ty = t }) ∷ []) (sym (reference_type_kept x))
      ∙ ap (λ z. z ∷ []) (sym (type_field_kept name (type_of_kind.ElsewhereDeclaredType x)))
  type_given_kept name _ = refl

  word_given_kept : (name word : List ℕ) → number_word name word ∷ [] ≡ each_field (number_word name word ∷ [])
  word_given_kept name word =
      ap (λ v. gives.FixedValueField (record { identifier = name; value = v }) ∷ []) (sym (number_kept (pos (digits_value 10 word))))
      ∙ ap (λ z. z ∷ []) (sym (value_field_kept name (value.Integer (pos (digits_value 10 word)))))

  value_given_kept : (name : List ℕ) (l : ItemLayer) → value_given name (item_parts (tagging f) l) ≡ each_field (value_given name l)
  value_given_kept name (SyntaxApplication-F.ValueReference v) = ap (λ z. z ∷ []) (sym (value_field_kept name v))
  value_given_kept name (SyntaxApplication-F.Literal word) = word_given_kept name word
  value_given_kept name (SyntaxApplication-F.LiteralOrTypeReference x) = word_given_kept name x.identifier
  value_given_kept name _ = refl

  item_gives_kept : (token : SyntaxToken) (l : ItemLayer) → item_gives token (item_parts (tagging f) l) ≡ each_field (item_gives token l)
  item_gives_kept (Field (MultipleValue name)) l = type_given_kept name l
  item_gives_kept (Field (SingleValue name)) l = value_given_kept name l
  item_gives_kept (Literal word) l = refl
  item_gives_kept Comma l = refl

  abbrev Follows : Part → Type 0
  Follows p = (behind : List (Bool × SyntaxToken)) (items : List SyntaxApplication) → p.follow behind (each_item items) ≡ option_map both_kept (p.follow behind items)

  abbrev AllFollow : List Part → Type 0
  AllFollow [] = Unit {0}
  AllFollow (p ∷ ps) = Follows p × AllFollow ps

  take_kept : (token : SyntaxToken) (behind : List (Bool × SyntaxToken)) (items : List SyntaxApplication) → take_item token behind (each_item items) ≡ option_map both_kept (take_item token behind items)
  take_kept token behind [] = refl
  take_kept token behind (x ∷ items) =
      ap (λ b. if b then Some (item_gives token (out-SyntaxApplication (rewritten_item (tagging f) x)), each_item items) else None) (matches_kept x token ((true, token) ∷ behind) 0)
      ∙ ap (λ l. if matches x token ((true, token) ∷ behind) 0 then Some (item_gives token l, each_item items) else None) (item_out f x)
      ∙ ap (λ g. if matches x token ((true, token) ∷ behind) 0 then Some (g, each_item items) else None) (item_gives_kept token (out-SyntaxApplication x))
      ∙ go (matches x token ((true, token) ∷ behind) 0)
    where
      go : (b : Bool) → (if b then Some (each_field (item_gives token (out-SyntaxApplication x)), each_item items) else None) ≡ option_map both_kept (if b then Some (item_gives token (out-SyntaxApplication x), items) else None)
      go true = refl
      go false = refl

  begins_kept : (tokens behind : List (Bool × SyntaxToken)) (items : List SyntaxApplication) → begins tokens behind (each_item items) ≡ begins tokens behind items
  begins_kept tokens behind [] = refl
  begins_kept [] behind (x ∷ items) = refl
  begins_kept (token ∷ tokens) behind (x ∷ items) = matches_kept x token.1 (token ∷ tokens ++ behind) 0

  follow_kept : (tokens : List Part → List (Bool × SyntaxToken)) (ps : List Part) → AllFollow ps → (behind : List (Bool × SyntaxToken)) (items : List SyntaxApplication) → follow_each tokens ps behind (each_item items) ≡ option_map both_kept (follow_each tokens ps behind items)
  follow_kept tokens [] h behind items = refl
  follow_kept tokens (p ∷ ps) h behind items =
      ap (λ o. once None o (λ first. once None (follow_each tokens ps behind first.1) (λ others. Some (first.0 ++ others.0, others.1)))) (h.0 (tokens ps ++ behind) items)
      ∙ once_through both_kept both_kept (p.follow (tokens ps ++ behind) items) _ _ (λ x.
      ap (λ o. once None o (λ others. Some (each_field x.0 ++ others.0, others.1))) (follow_kept tokens ps h.1 behind x.1)
      ∙ once_through both_kept both_kept (follow_each tokens ps behind x.1) _ _ (λ y. ap (λ z. Some (z, each_item y.1)) (sym (map_append f (rewritten_field (tagging f)) x.0 y.0))))

  group_kept : (group : List Part) → AllFollow group → (behind : List (Bool × SyntaxToken)) (items : List SyntaxApplication) →
      (if begins (optional_tokens group) behind (each_item items) then follow_each optional_tokens group behind (each_item items) else Some ([], each_item items))
      ≡ option_map both_kept (if begins (optional_tokens group) behind items then follow_each optional_tokens group behind items else Some ([], items))
  group_kept group h behind items =
      ap (λ b. if b then follow_each optional_tokens group behind (each_item items) else Some ([], each_item items)) (begins_kept (optional_tokens group) behind items)
      ∙ ap (λ o. if begins (optional_tokens group) behind items then o else Some ([], each_item items)) (follow_kept optional_tokens group h behind items)
      ∙ if_mapped both_kept (begins (optional_tokens group) behind items) (follow_each optional_tokens group behind items) (Some ([], items))

  abbrev PartFollows : SyntaxExpression → Type 0
  PartFollows e = Follows (part_of e)

  parts_follow : (ys : List ((e : SyntaxExpression) × PartFollows e)) → AllFollow (map part_of (map (λ y. y.0) ys))
  parts_follow [] = tt
  parts_follow (y ∷ ys) = (y.1, parts_follow ys)

  by_layer : (y : SyntaxExpression-F ((e : SyntaxExpression) × PartFollows e)) → Follows (part_at (map-SyntaxExpression SyntaxExpression Part part_of (map-SyntaxExpression ((e : SyntaxExpression) × PartFollows e) SyntaxExpression (λ y. y.0) y)))
  by_layer (SyntaxExpression-F.Required token) = take_kept token
  by_layer (SyntaxExpression-F.Optional group) = group_kept (map part_of (map (λ y. y.0) group)) (parts_follow group)

  part_follows : (e : SyntaxExpression) → PartFollows e
  part_follows = ind-SyntaxExpression PartFollows (λ x y is.
      subst Follows (sym (fold-roll-SyntaxExpression Part part_at x))
      (subst (λ z. Follows (part_at (map-SyntaxExpression SyntaxExpression Part part_of z))) is (by_layer y)))

  all_follow : (es : List SyntaxExpression) → AllFollow (map part_of es)
  all_follow [] = tt
  all_follow (e ∷ es) = (part_follows e, all_follow es)

  ended_kept : (x : List InformationObjectField × List SyntaxApplication) → if_ended (both_kept x) ≡ option_map each_field (if_ended x)
  ended_kept (fields, []) = refl
  ended_kept (fields, x ∷ items) = refl

  applied_kept : (syntax : Option InformationObjectSyntax) (items : List SyntaxApplication) → applied syntax (each_item items) ≡ option_map each_field (applied syntax items)
  applied_kept None items = refl
  applied_kept (Some syntax) items =
      ap (λ o. once None o if_ended) (follow_kept tokens_in (map part_of syntax.expressions) (all_follow syntax.expressions) [] items)
      ∙ once_through both_kept each_field (follow_each tokens_in (map part_of syntax.expressions) [] items) if_ended if_ended ended_kept

  given_at_kept : (c k : Option InformationObjectClass) → BothAlike ClassesAlike c k → (l : FieldsLayer) → given_at k (fields_parts (tagging f) l) ≡ option_map each_field (given_at c l)
  given_at_kept c k a (InformationObjectFields-F.DefaultSyntax fields) = refl
  given_at_kept c k a (InformationObjectFields-F.CustomSyntax items) =
      once_alike ClassesAlike None c k _ _ a (λ x y r. ap (λ z. applied z.syntax (each_item items)) r.1)
      ∙ once_same None c _ _ (λ x. applied_kept x.syntax items)
      ∙ once_out c
    where
      once_out : (c : Option InformationObjectClass) → once None c (λ x. option_map each_field (applied x.syntax items)) ≡ option_map each_field (once None c (λ x. applied x.syntax items))
      once_out None = refl
      once_out (Some x) = refl

  name_at_kept : (l : FieldLayer) → given_name_at (field_parts (tagging f) l) ≡ given_name_at l
  name_at_kept (InformationObjectField-F.TypeField x) = refl
  name_at_kept (InformationObjectField-F.FixedValueField x) = refl
  name_at_kept (InformationObjectField-F.ObjectSetField x) = refl

  name_kept : (x : InformationObjectField) → given_name (rewritten_field (tagging f) x) ≡ given_name x
  name_kept x = ap given_name_at (field_out f x) ∙ name_at_kept (out-InformationObjectField x)

module _ (defs others : Definitions) (seen : DifferInTags defs others) where
  pub given_alike : (o p : InformationObject) → ObjectsAlike o p → (name : List ℕ) → BothAlike FieldsAlike (given defs o name) (given others p name)
  given_alike o p (f, e) name =
      mapped_alike FieldsAlike (rewritten_field (tagging f)) (given defs o name) (given others p name) (ap (λ z. given others z name) e ∙ kept) (λ x. (f, refl))
    where
      kept : given others (record o { fields = tagged_fields f o.fields }) name ≡ option_map (rewritten_field (tagging f)) (given defs o name)
      kept =
          ap (λ l. once None (given_at (class_named others o.class_name) l) (find (λ x. bytes_eq (given_name x) name))) (fields_out f o.fields)
          ∙ ap (λ z. once None z (find (λ x. bytes_eq (given_name x) name))) (given_at_kept f (class_named defs o.class_name) (class_named others o.class_name) (class_alike defs others seen o.class_name) (out-InformationObjectFields o.fields))
          ∙ once_through (map (rewritten_field (tagging f))) (rewritten_field (tagging f)) (given_at (class_named defs o.class_name) (out-InformationObjectFields o.fields)) _ _
          (λ xs. find_mapped (rewritten_field (tagging f)) _ _ (λ x. ap (λ n. bytes_eq n name) (name_kept f x)) xs)
