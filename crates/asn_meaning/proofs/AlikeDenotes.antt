-- What values denote, where tags differ.
use Rattle.std.specs.Prelude.{nat_le, nat_lt, pos, negsuc, ◌^◌, ◌*◌, ◌+◌, nat_eq, is_some, if◌then◌else◌}
use Rattle.std.specs.Option.{option_map}
use Rattle.std.proofs.Common.{◌≡◌, ℕ, ℤ, Bool, true, false, ◌&&◌, ◌||◌, List, [], ◌∷◌, map, Option, Some, None, refl, sym, subst, ap, ◌∙◌}
use Rattle.asn_tree.specs.Passes.{field_parts, parameter_parts, type_parts, value_parts, rewritten_option}
use Rattle.asn_tree.specs.declared.constraints.Parameter.{Parameter-F, out-Parameter}
use Rattle.asn_tree.specs.declared.definitions.ParameterGovernor.{ParameterGovernor}
use Rattle.asn_tree.specs.declared.definitions.ParameterGovernor.TheVariants as governor
use Rattle.asn_tree.specs.declared.definitions.ToplevelValueDefinition.{ToplevelValueDefinition}
use Rattle.asn_tree_headers.specs.declared.headers.ObjectIdentifierArc.{ObjectIdentifierArc}
use Rattle.asn_tree.specs.declared.objects.InformationObjectField.{InformationObjectField, InformationObjectField-F, out-InformationObjectField}
use Rattle.asn_tree.specs.declared.types.ASN1Type.{ASN1Type}
use Rattle.asn_tree.specs.declared.types.ASN1Type.TheVariants as type_of_kind
use Rattle.asn_tree.specs.declared.types.ChoiceOption.{ChoiceOption}
use Rattle.asn_tree_kinds.specs.declared.types.DistinguishedValue.{DistinguishedValue}
use Rattle.asn_tree.specs.declared.values.ASN1Value.{ASN1Value}
use Rattle.asn_tree.specs.declared.values.ASN1Value.TheVariants as value
use Rattle.asn_meaning.specs.Answers.{No, Unknown, once, Denotation, Denoted, Nothing, Unsure, together, made_of, if_any, provided}
use Rattle.asn_meaning.specs.Braces.{all_named, all_unnamed, arc_value, arcs_as_element, arcs_as_field, elements_written, fields_written}
use Rattle.asn_meaning.specs.Definitions.{Definitions, value_named}
use Rattle.asn_meaning.specs.Denotes.{Read, are_distinct, argument_at, argument_of, argument_under, choice_row, defined_denoted, defined_read, denoted_under, denotes_at, field_denoted, fields_denoted, is_open, is_open_kind, item_in, list_row, may_stand, member_denoted, name_denoted, own_in, own_name, own_or_defined, parts_row, path_denoted, path_value, read_denoted, reference_denoted, row_or_parts, shaped, struct_denoted, struct_row, trees_denoted, value_denoted, value_of_field, written_denoted}
use Rattle.asn_meaning.specs.Everything.{defined_is_all, field_place, is_all_at, name_is_all, plain_text, read_is_all, reference_is_all}
use Rattle.asn_meaning.specs.Kinds.{Kind, BitStringKind, BooleanKind, CharacterStringKind, ChoiceKind, EnumeratedKind, FieldKind, IntegerKind, ListKind, NullKind, ObjectIdentifierKind, OctetStringKind, OpaqueKind, RealKind, ReferenceKind, SelectionKind, StructKind, TimeKind, kind_of}
use Rattle.asn_meaning.specs.Layers.{FieldLayer, ParameterLayer}
use Rattle.asn_meaning.specs.Meaning.{Meaning, Member}
use Rattle.asn_meaning.specs.Members.{may_be_absent, member_named, named}
use Rattle.asn_meaning.specs.Names.{FieldType, Open, Fixed}
use Rattle.asn_meaning.specs.Rows.{arcs_row, bits_row, character, named_bits, names_written, null_row, number_row, number_written, octet_written, octets_row, quadruple, real_row, reference_name, reference_names, row, string_row, string_written, text_row, truth_row}
use Rattle.asn_meaning.specs.Scopes.{Scope, Empty, Argument, Bound, Place}
use Rattle.asn_meaning.specs.Tags.{TagChange, BothAlike, DifferInTags, PlacesAlike, ScopesAlike, tagged, tagged_governor, tagged_value, tagging}
use Rattle.asn_meaning.specs.ValueTrees.{ValueTree, Struct, Alternative, Elements, Opaque, field, tree, Bits, Characters, is_among}
use Rattle.asn_meaning.specs.Written.{NamedValues, Items, Written, AllWritten, NullWritten, TruthWritten, NumberWritten, RealWritten, TextWritten, BitsWritten, BitNamesWritten, OctetsWritten, ArcsWritten, ItemWritten, NameWritten, BracesWritten, FieldsWritten, ElementsWritten, AlternativeWritten, NestedWritten, as_written}
use Rattle.asn_meaning.proofs.Alike.{AllAlike, ArgumentsAlike, BoundsAlike, all_alike, bound_alike, kind_alike, once_alike, once_both, once_mapped, once_same, once_through, scope_alike}
use Rattle.asn_meaning.proofs.AlikeMembers.{AlikeKnown, MembersAlike, OptionLayersAlike, absent_alike, member_place_alike, name_alike, named_alike, option_alike, option_place_alike}
use Rattle.asn_meaning.proofs.AlikeNames.{FieldTypesAlike, object_field_alike, object_type_alike, untagged_place}
use Rattle.asn_meaning.proofs.AlikeObjects.{FieldsAlike, ObjectsAlike, ValuesAlike, number_kept, object_alike, value_alike}
use Rattle.asn_meaning.proofs.TagLayers.{field_out, item_kept, kind_kept, named_kept, parameter_out, type_by_level, value_by_level, value_written_kept, written_kept}

-- ---- braces

module _ (f : TagChange) where
  all_named_kept : (items : Items) → all_named (map (item_kept f) items) ≡ option_map (map (named_kept f)) (all_named items)
  all_named_kept [] = refl
  all_named_kept ((None, v) ∷ items) = refl
  all_named_kept ((Some name, v) ∷ items) =
      ap (λ o. once None o (λ others. Some ((name, tagged_value f v) ∷ others))) (all_named_kept items)
      ∙ once_through (map (named_kept f)) (map (named_kept f)) (all_named items) _ _ (λ x. refl)

  all_unnamed_kept : (items : Items) → all_unnamed (map (item_kept f) items) ≡ option_map (map (tagged_value f)) (all_unnamed items)
  all_unnamed_kept [] = refl
  all_unnamed_kept ((None, v) ∷ items) =
      ap (λ o. once None o (λ others. Some (tagged_value f v ∷ others))) (all_unnamed_kept items)
      ∙ once_through (map (tagged_value f)) (map (tagged_value f)) (all_unnamed items) _ _ (λ x. refl)
  all_unnamed_kept ((Some name, v) ∷ items) = refl

  name_value_kept : (name : List ℕ) → tagged_value f (value.ElsewhereDeclaredValue None name) ≡ value.ElsewhereDeclaredValue None name
  name_value_kept name = value_by_level f _ (value.ElsewhereDeclaredValue None name) (value.outs-ElsewhereDeclaredValue None name ∙ ap (value_parts (tagging f)) (sym (value.outs-ElsewhereDeclaredValue None name)))

  arc_value_kept : (name : Option (List ℕ)) (number : Option ℕ) → arc_value name number ≡ option_map (tagged_value f) (arc_value name number)
  arc_value_kept (Some name) None = ap Some (sym (name_value_kept name))
  arc_value_kept None (Some n) = go (nat_lt n (2 ^ 127))
    where
      go : (b : Bool) → (if b then Some (value.Integer (pos n)) else None) ≡ option_map (tagged_value f) (if b then Some (value.Integer (pos n)) else None)
      go true = ap Some (sym (number_kept f (pos n)))
      go false = refl
  arc_value_kept (Some name) (Some n) = refl
  arc_value_kept None None = refl

  one_field_kept : (name : List ℕ) (o : Option ASN1Value) → o ≡ option_map (tagged_value f) o → once None o (λ v. Some ((name, v) ∷ [])) ≡ option_map (map (named_kept f)) (once None o (λ v. Some ((name, v) ∷ [])))
  one_field_kept name o e = ap (λ z. once None z (λ v. Some ((name, v) ∷ []))) e ∙ once_through (tagged_value f) (map (named_kept f)) o _ _ (λ v. refl)

  arcs_field_kept : (arcs : List ObjectIdentifierArc) → arcs_as_field arcs ≡ option_map (map (named_kept f)) (arcs_as_field arcs)
  arcs_field_kept [] = refl
  arcs_field_kept (a ∷ []) = refl
  arcs_field_kept (a ∷ b ∷ []) = go a.number a.name
    where
      go : (number : Option ℕ) (name : Option (List ℕ)) →
          elim number [ Some n ↦ None | None ↦ once None name (λ x. once None (arc_value b.name b.number) (λ v. Some ((x, v) ∷ []))) ]
          ≡ option_map (map (named_kept f)) (elim number [ Some n ↦ None | None ↦ once None name (λ x. once None (arc_value b.name b.number) (λ v. Some ((x, v) ∷ []))) ])
      go (Some n) name = refl
      go None None = refl
      go None (Some x) = one_field_kept x (arc_value b.name b.number) (arc_value_kept b.name b.number)
  arcs_field_kept (a ∷ b ∷ c ∷ arcs) = refl

  arcs_element_kept : (arcs : List ObjectIdentifierArc) → arcs_as_element arcs ≡ option_map (map (tagged_value f)) (arcs_as_element arcs)
  arcs_element_kept [] = refl
  arcs_element_kept (a ∷ []) = ap (λ o. once None o (λ v. Some (v ∷ []))) (arc_value_kept a.name a.number) ∙ once_through (tagged_value f) (map (tagged_value f)) (arc_value a.name a.number) _ _ (λ v. refl)
  arcs_element_kept (a ∷ b ∷ arcs) = refl

  pub fields_kept : (w : Written) → fields_written (written_kept f w) ≡ option_map (map (named_kept f)) (fields_written w)
  fields_kept (BracesWritten items) = all_named_kept items
  fields_kept (ArcsWritten arcs) = arcs_field_kept arcs
  fields_kept _ = refl

  pub elements_kept : (w : Written) → elements_written (written_kept f w) ≡ option_map (map (tagged_value f)) (elements_written w)
  elements_kept (BracesWritten items) = all_unnamed_kept items
  elements_kept (ArcsWritten arcs) = arcs_element_kept arcs
  elements_kept _ = refl

  -- ---- rows

  reference_name_kept : (w : Written) → reference_name (written_kept f w) ≡ reference_name w
  reference_name_kept (BracesWritten items) = refl
  reference_name_kept _ = refl

  reference_names_kept : (vs : List ASN1Value) → reference_names (map (tagged_value f) vs) ≡ reference_names vs
  reference_names_kept [] = refl
  reference_names_kept (v ∷ vs) =
      ap (λ o. once None o (λ name. once None (reference_names (map (tagged_value f) vs)) (λ names. Some (name ∷ names)))) (ap reference_name (value_written_kept f v) ∙ reference_name_kept (as_written v))
      ∙ once_same None (reference_name (as_written v)) _ _ (λ name. ap (λ o. once None o (λ names. Some (name ∷ names))) (reference_names_kept vs))

  elements_named : (w : Written) → once None (elements_written (written_kept f w)) reference_names ≡ once None (elements_written w) reference_names
  elements_named w = ap (λ o. once None o reference_names) (elements_kept w) ∙ once_mapped (map (tagged_value f)) None (elements_written w) reference_names reference_names reference_names_kept

  names_kept : (w : Written) → names_written (written_kept f w) ≡ names_written w
  names_kept (BitNamesWritten names) = refl
  names_kept (BracesWritten items) = elements_named (BracesWritten items)
  names_kept (ElementsWritten vs) = elements_named (ElementsWritten vs)
  names_kept _ = refl

  number_written_kept : (w : Written) → number_written (written_kept f w) ≡ number_written w
  number_written_kept (BracesWritten items) = refl
  number_written_kept _ = refl

  octet_kept : (v : ASN1Value) → octet_written (tagged_value f v) ≡ octet_written v
  octet_kept v = ap octet (ap number_written (value_written_kept f v) ∙ number_written_kept (as_written v))
    where
      octet : Option ℤ → Option ℕ
      octet o = once None o (elim [ pos n ↦ if nat_le n 255 then Some n else None | negsuc n ↦ None ])

  abbrev quadruple_of : Option ℕ → Option ℕ → Option ℕ → Option ℕ → Option (List ℕ)
  quadruple_of z p r c =
      once None z (λ group. once None p (λ plane. once None r (λ row. once None c (λ cell.
      if nat_eq group 0 then character (65536 * plane + 256 * row + cell) else None))))

  quadruple_kept : (vs : List ASN1Value) → quadruple (map (tagged_value f) vs) ≡ quadruple vs
  quadruple_kept [] = refl
  quadruple_kept (z ∷ []) = refl
  quadruple_kept (z ∷ p ∷ []) = refl
  quadruple_kept (z ∷ p ∷ r ∷ []) = refl
  quadruple_kept (z ∷ p ∷ r ∷ c ∷ []) =
      ap (λ o. quadruple_of o (octet_written (tagged_value f p)) (octet_written (tagged_value f r)) (octet_written (tagged_value f c))) (octet_kept z)
      ∙ ap (λ o. quadruple_of (octet_written z) o (octet_written (tagged_value f r)) (octet_written (tagged_value f c))) (octet_kept p)
      ∙ ap (λ o. quadruple_of (octet_written z) (octet_written p) o (octet_written (tagged_value f c))) (octet_kept r)
      ∙ ap (λ o. quadruple_of (octet_written z) (octet_written p) (octet_written r) o) (octet_kept c)
  quadruple_kept (z ∷ p ∷ r ∷ c ∷ x ∷ vs) = refl

  string_kept : (w : Written) → string_written (written_kept f w) ≡ string_written w
  string_kept (BracesWritten items) = ap (λ o. once None o quadruple) (all_unnamed_kept items) ∙ once_mapped (map (tagged_value f)) None (all_unnamed items) quadruple quadruple quadruple_kept
  string_kept _ = refl

  null_row_kept : (w : Written) → null_row (written_kept f w) ≡ null_row w
  null_row_kept NullWritten = refl
  null_row_kept _ = refl

  truth_row_kept : (w : Written) → truth_row (written_kept f w) ≡ truth_row w
  truth_row_kept (TruthWritten b) = refl
  truth_row_kept _ = refl

  number_row_kept : (w : Written) → number_row (written_kept f w) ≡ number_row w
  number_row_kept (NumberWritten i) = refl
  number_row_kept _ = refl

  real_row_kept : (w : Written) → real_row (written_kept f w) ≡ real_row w
  real_row_kept (RealWritten x) = refl
  real_row_kept _ = refl

  bits_by_names : (ds : List DistinguishedValue) (w : Written) → once None (names_written (written_kept f w)) (λ names. once None (named_bits ds names) (λ bits. Some (Bits bits))) ≡ once None (names_written w) (λ names. once None (named_bits ds names) (λ bits. Some (Bits bits)))
  bits_by_names ds w = ap (λ o. once None o (λ names. once None (named_bits ds names) (λ bits. Some (Bits bits)))) (names_kept w)

  bits_row_kept : (ds : List DistinguishedValue) (w : Written) → bits_row ds (written_kept f w) ≡ bits_row ds w
  bits_row_kept ds (BracesWritten items) = bits_by_names ds (BracesWritten items)
  bits_row_kept ds (ElementsWritten vs) = bits_by_names ds (ElementsWritten vs)
  bits_row_kept ds _ = refl

  octets_row_kept : (w : Written) → octets_row (written_kept f w) ≡ octets_row w
  octets_row_kept (OctetsWritten os) = refl
  octets_row_kept _ = refl

  string_row_kept : (w : Written) → string_row (written_kept f w) ≡ string_row w
  string_row_kept w = ap (λ o. once None o (λ s. Some (Characters s))) (string_kept w)

  text_row_kept : (w : Written) → text_row (written_kept f w) ≡ text_row w
  text_row_kept (TextWritten s) = refl
  text_row_kept _ = refl

  arcs_row_kept : (w : Written) → arcs_row (written_kept f w) ≡ arcs_row w
  arcs_row_kept (ArcsWritten arcs) = refl
  arcs_row_kept _ = refl

  rows_kept : (k : Kind) (a b : Denotation ValueTree) → b ≡ a → (w : Written) → row_or_parts (row (kind_kept f k)) b (written_kept f w) ≡ row_or_parts (row k) a w
  rows_kept NullKind a b e w = ap if_any (null_row_kept w)
  rows_kept BooleanKind a b e w = ap if_any (truth_row_kept w)
  rows_kept (IntegerKind numbers) a b e w = ap if_any (number_row_kept w)
  rows_kept RealKind a b e w = ap if_any (real_row_kept w)
  rows_kept (BitStringKind bits) a b e w = ap if_any (bits_row_kept (named bits) w)
  rows_kept OctetStringKind a b e w = ap if_any (octets_row_kept w)
  rows_kept (CharacterStringKind ty) a b e w = ap if_any (string_row_kept w)
  rows_kept TimeKind a b e w = ap if_any (text_row_kept w)
  rows_kept (EnumeratedKind items) a b e w = refl
  rows_kept ObjectIdentifierKind a b e w = ap if_any (arcs_row_kept w)
  rows_kept OpaqueKind a b e w = refl
  rows_kept (StructKind x) a b e w = e
  rows_kept (ListKind ty) a b e w = e
  rows_kept (ChoiceKind options) a b e w = e
  rows_kept (FieldKind x) a b e w = refl
  rows_kept (ReferenceKind x) a b e w = e
  rows_kept (SelectionKind x) a b e w = e

  own_kept : (name : List ℕ) (k : Kind) → own_in name (kind_kept f k) ≡ own_in name k
  own_kept name (StructKind x) = refl
  own_kept name _ = refl

  pub item_in_kept : (name : List ℕ) (k : Kind) → item_in name (kind_kept f k) ≡ item_in name k
  item_in_kept name (StructKind x) = refl
  item_in_kept name _ = refl

  open_kept : (k : Kind) → is_open_kind (kind_kept f k) ≡ is_open_kind k
  open_kept (StructKind x) = refl
  open_kept _ = refl

pub own_alike : (name : List ℕ) (p q : Place) → PlacesAlike p q → own_name q name ≡ own_name p name
own_alike name p q k = ap (own_in name) (kind_alike p q k) ∙ own_kept k.0 name (kind_of p)

item_alike : (name : List ℕ) (p q : Place) → PlacesAlike p q → item_in name (kind_of q) ≡ item_in name (kind_of p)
item_alike name p q k = ap (item_in name) (kind_alike p q k) ∙ item_in_kept k.0 name (kind_of p)

open_alike : (p q : Place) → PlacesAlike p q → is_open q ≡ is_open p
open_alike p q k = ap is_open_kind (kind_alike p q k) ∙ open_kept k.0 (kind_of p)

-- a text without constraints has no tags
pub text_place : PlacesAlike plain_text plain_text
text_place = untagged_place Empty Empty refl _ (type_by_level (λ t. t) _ _ (type_of_kind.outs-CharacterString _ ∙ ap (type_parts (tagging (λ t. t))) (sym (type_of_kind.outs-CharacterString _))))

-- ---- what is read

abbrev pub ReadsAlike : Read → Read → Type 0
ReadsAlike r u = (f : TagChange) × (s : Scope) × ScopesAlike r.scope s × (p : Place) × PlacesAlike r.place p × (u ≡ record { scope = s; value = tagged_value f r.value; place = p })

argument_at_alike : (inside outside : Scope) → ScopesAlike inside outside → (g : TagChange) (ty : ASN1Type) (s q : Scope) → ScopesAlike s q → (f : TagChange) (l : ParameterLayer) →
    BothAlike ReadsAlike (argument_at inside ty s l) (argument_at outside (tagged g ty) q (parameter_parts (tagging f) l))
argument_at_alike inside outside c g ty s q k f (Parameter-F.ValueParameter v) =
    (record { scope = q; value = tagged_value f v; place = record { scope = outside; ty = tagged g ty } }, (f, q, k, record { scope = outside; ty = tagged g ty }, (g, outside, c, refl), refl), refl)
argument_at_alike inside outside c g ty s q k f (Parameter-F.TypeParameter x) = refl
argument_at_alike inside outside c g ty s q k f (Parameter-F.InformationObjectParameter x) = refl
argument_at_alike inside outside c g ty s q k f (Parameter-F.ObjectSetParameter x) = refl

under_alike : (inside outside : Scope) → ScopesAlike inside outside → (g : TagChange) (gov : ParameterGovernor) (x y : Argument) → ArgumentsAlike x y → BothAlike ReadsAlike (argument_under inside gov x) (argument_under outside (tagged_governor g gov) y)
under_alike inside outside c g governor.None x y r = refl
under_alike inside outside c g (governor.TypeOrClass ty) x y (f, s, k, e) =
    subst (λ z. BothAlike ReadsAlike (argument_at inside ty x.scope (out-Parameter x.tree)) (argument_at outside (tagged g ty) z.scope (out-Parameter z.tree))) (sym e)
    (subst (λ l. BothAlike ReadsAlike (argument_at inside ty x.scope (out-Parameter x.tree)) (argument_at outside (tagged g ty) s l)) (sym (parameter_out f x.tree)) (argument_at_alike inside outside c g ty x.scope s k f (out-Parameter x.tree)))
under_alike inside outside c g (governor.Class name) x y r = refl

pub argument_alike : (inside outside : Scope) → ScopesAlike inside outside → (b c : Bound) → BoundsAlike b c → BothAlike ReadsAlike (argument_of inside b) (argument_of outside c)
argument_alike inside outside k b c (g, argument, a, e) =
    subst (λ z. BothAlike ReadsAlike (argument_of inside b) (argument_of outside z)) (sym e)
    (once_both ArgumentsAlike ReadsAlike _ _ _ _ a (under_alike inside outside k g b.governor))

pub defined_alike : (d e : ToplevelValueDefinition) → ValuesAlike d e → ReadsAlike (defined_read d) (defined_read e)
defined_alike d e (f, ty, v) =
    (f, Empty, refl, record { scope = Empty; ty = e.associated_type }, (f, Empty, refl, ap (λ z. record { scope = Empty; ty = z }) ty), ap (λ z. record { scope = Empty; value = z; place = record { scope = Empty; ty = e.associated_type } }) v)

value_of_field_at : (f : TagChange) (l : FieldLayer) → value_of_field (field_parts (tagging f) l) ≡ option_map (tagged_value f) (value_of_field l)
value_of_field_at f (InformationObjectField-F.TypeField x) = refl
value_of_field_at f (InformationObjectField-F.FixedValueField x) = refl
value_of_field_at f (InformationObjectField-F.ObjectSetField x) = refl

abbrev pub ValueBy : TagChange → ASN1Value → ASN1Value → Type 0
ValueBy f v w = w ≡ tagged_value f v

value_of_field_alike : (x y : InformationObjectField) (r : FieldsAlike x y) → BothAlike (ValueBy r.0) (value_of_field (out-InformationObjectField x)) (value_of_field (out-InformationObjectField y))
value_of_field_alike x y (f, e) = go (value_of_field (out-InformationObjectField x)) _ (ap (λ z. value_of_field (out-InformationObjectField z)) e ∙ ap value_of_field (field_out f x) ∙ value_of_field_at f (out-InformationObjectField x))
  where
    go : (o u : Option ASN1Value) → u ≡ option_map (tagged_value f) o → BothAlike (ValueBy f) o u
    go None u e = e
    go (Some v) u e = (tagged_value f v, refl, e)

abbrev pub FieldValuesAlike : ASN1Value × FieldType → ASN1Value × FieldType → Type 0
FieldValuesAlike x y = (f : TagChange) × FieldTypesAlike x.1 y.1 × (y.0 ≡ tagged_value f x.0)

module _ (defs others : Definitions) (seen : DifferInTags defs others) where
  pub path_alike : (s q : Scope) → ScopesAlike s q → (o name : List ℕ) → BothAlike FieldValuesAlike (path_value defs s o name) (path_value others q o name)
  path_alike s q k o name =
      once_both FieldsAlike FieldValuesAlike _ _ _ _ (object_field_alike defs others seen s q k o name) (λ x y r.
      once_both (ValueBy r.0) FieldValuesAlike _ _ _ _ (value_of_field_alike x y r) (λ v w e.
      once_both ObjectsAlike FieldValuesAlike _ _ _ _ (object_alike defs others seen o) (λ p u c.
      once_both FieldTypesAlike FieldValuesAlike _ _ _ _ (object_type_alike defs others seen p u c name) (λ ty tz h. ((w, tz), (r.0, h, e), refl)))))

  module _ (M N : Meaning) (a : AlikeKnown M N) where
    member_denoted_alike : (s q : Scope) → ScopesAlike s q → (f : TagChange) (m n : Option Member) → BothAlike MembersAlike m n → (v : ASN1Value) → member_denoted N q n (tagged_value f v) ≡ member_denoted M s m v
    member_denoted_alike s q k f None n e v = ap (λ z. member_denoted N q z (tagged_value f v)) e
    member_denoted_alike s q k f (Some m) n (u, r, e) v = ap (λ z. member_denoted N q z (tagged_value f v)) e ∙ a.denotes s q k f v _ _ (member_place_alike m u r)

    fields_denoted_alike : (s q : Scope) → ScopesAlike s q → (f : TagChange) (ms ns : List Member) → AllAlike MembersAlike ms ns → (fields : NamedValues) → fields_denoted N q ns (map (named_kept f) fields) ≡ fields_denoted M s ms fields
    fields_denoted_alike s q k f ms ns e [] = refl
    fields_denoted_alike s q k f ms ns e (x ∷ fields) =
        ap (λ z. together (field x.0) z (fields_denoted N q ns (map (named_kept f) fields))) (member_denoted_alike s q k f _ _ (named_alike x.0 ms ns e) x.1)
        ∙ ap (together (field x.0) (member_denoted M s (member_named ms x.0) x.1)) (fields_denoted_alike s q k f ms ns e fields)

    names_same : (f : TagChange) (fields : NamedValues) → map (λ x. x.0) (map (named_kept f) fields) ≡ map (λ x. x.0) fields
    names_same f [] = refl
    names_same f (x ∷ fields) = ap (λ z. x.0 ∷ z) (names_same f fields)

    may_stand_alike : (names : List (List ℕ)) (ms ns : List Member) → AllAlike MembersAlike ms ns → may_stand names ns ≡ may_stand names ms
    may_stand_alike names ms ns e = ap (λ z. are_distinct names && z) (all_alike MembersAlike _ _ (λ m n r. ap (λ z. is_among names z || may_be_absent n) (name_alike m n r) ∙ ap (λ z. is_among names m.written.name || z) (absent_alike m n r)) ms ns e)

    struct_row_alike : (s q : Scope) → ScopesAlike s q → (f : TagChange) (x y : Option (List Member)) → BothAlike (AllAlike MembersAlike) x y → (w : Written) → struct_row N q y (written_kept f w) ≡ struct_row M s x w
    struct_row_alike s q k f x y p w =
        ap (λ o. once Nothing o (λ fields. once Unsure y (struct_denoted N q fields))) (fields_kept f w)
        ∙ once_mapped (map (named_kept f)) Nothing (fields_written w) _ _ (λ fields.
        once_alike (AllAlike MembersAlike) Unsure x y _ _ p (λ ms ns e.
        ap (λ z. if may_stand z ns then made_of Struct (fields_denoted N q ns (map (named_kept f) fields)) else Nothing) (names_same f fields)
        ∙ ap (λ z. if z then made_of Struct (fields_denoted N q ns (map (named_kept f) fields)) else Nothing) (may_stand_alike (map (λ x. x.0) fields) ms ns e)
        ∙ ap (λ z. if may_stand (map (λ x. x.0) fields) ms then made_of Struct z else Nothing) (fields_denoted_alike s q k f ms ns e fields)))

    trees_denoted_alike : (s q : Scope) → ScopesAlike s q → (f : TagChange) (p r : Place) → PlacesAlike p r → (vs : List ASN1Value) → trees_denoted N q r (map (tagged_value f) vs) ≡ trees_denoted M s p vs
    trees_denoted_alike s q k f p r h [] = refl
    trees_denoted_alike s q k f p r h (v ∷ vs) =
        ap (λ z. together tree z (trees_denoted N q r (map (tagged_value f) vs))) (a.denotes s q k f v p r h)
        ∙ ap (together tree (M.denotes s v p)) (trees_denoted_alike s q k f p r h vs)

    list_row_alike : (s q : Scope) → ScopesAlike s q → (f : TagChange) (p r : Place) → PlacesAlike p r → (w : Written) → list_row N q r (written_kept f w) ≡ list_row M s p w
    list_row_alike s q k f p r h w =
        ap (λ o. once Nothing o (λ vs. made_of Elements (trees_denoted N q r vs))) (elements_kept f w)
        ∙ once_mapped (map (tagged_value f)) Nothing (elements_written w) _ _ (λ vs. ap (made_of Elements) (trees_denoted_alike s q k f p r h vs))

    choice_row_alike : (s q : Scope) → ScopesAlike s q → (f : TagChange) (inside outside : Scope) → ScopesAlike inside outside → (g : TagChange) (options : List ChoiceOption) (w : Written) →
        choice_row N q outside (map (rewritten_option (tagging g)) options) (written_kept f w) ≡ choice_row M s inside options w
    choice_row_alike s q k f inside outside c g options (AlternativeWritten name v) =
        once_alike (OptionLayersAlike g) Nothing _ _ _ _ (option_alike g options name) (λ o u e. ap (made_of (Alternative name)) (a.denotes s q k f v _ _ (option_place_alike inside outside c g o u e)))
    choice_row_alike s q k f inside outside c g options _ = refl

    parts_row_alike : (s q : Scope) → ScopesAlike s q → (f : TagChange) (w : Written) (inside outside : Scope) → ScopesAlike inside outside → (g : TagChange) (k : Kind) →
        parts_row N q (written_kept f w) outside (kind_kept g k) ≡ parts_row M s w inside k
    parts_row_alike s q k f w inside outside c g (StructKind x) = struct_row_alike s q k f _ _ (a.members inside outside c g x) w
    parts_row_alike s q k f w inside outside c g (ListKind ty) = list_row_alike s q k f _ _ (g, outside, c, refl) w
    parts_row_alike s q k f w inside outside c g (ChoiceKind options) = choice_row_alike s q k f inside outside c g options w
    parts_row_alike s q k f w inside outside c g _ = refl

    written_alike : (s q : Scope) → ScopesAlike s q → (f : TagChange) (w : Written) (p r : Place) (h : PlacesAlike p r) → written_denoted N q (written_kept f w) r ≡ written_denoted M s w p
    written_alike s q k f w p r h =
        ap (λ z. row_or_parts (row z) (parts_row N q (written_kept f w) r.scope z) (written_kept f w)) (kind_alike p r h)
        ∙ rows_by h.0 (kind_of p) (parts_row_alike s q k f w p.scope r.scope (scope_alike p r h) h.0 (kind_of p))
      where
        rows_by : (g : TagChange) (z : Kind) → parts_row N q (written_kept f w) r.scope (kind_kept g z) ≡ parts_row M s w p.scope z →
            row_or_parts (row (kind_kept g z)) (parts_row N q (written_kept f w) r.scope (kind_kept g z)) (written_kept f w) ≡ row_or_parts (row z) (parts_row M s w p.scope z) w
        rows_by g z e = swap g z ∙ rows_kept f z _ _ e w
          where
            swap : (g : TagChange) (z : Kind) → row_or_parts (row (kind_kept g z)) (parts_row N q (written_kept f w) r.scope (kind_kept g z)) (written_kept f w) ≡ row_or_parts (row (kind_kept f z)) (parts_row N q (written_kept f w) r.scope (kind_kept g z)) (written_kept f w)
            swap g (StructKind x) = refl
            swap g _ = refl

    shaped_alike : (p r : Place) → PlacesAlike p r → (d e : Denotation ValueTree) → e ≡ d → shaped N r e ≡ shaped M p d
    shaped_alike p r h (Denoted t) e is = ap (shaped N r) is ∙ ap (λ z. provided z t) (a.fits p r h t)
    shaped_alike p r h Nothing e is = ap (shaped N r) is
    shaped_alike p r h Unsure e is = ap (shaped N r) is

    read_alike : (x y : Read) → ReadsAlike x y → read_denoted N y ≡ read_denoted M x
    read_alike x y (f, s, k, p, h, e) = ap (read_denoted N) e ∙ a.denotes x.scope s k f x.value x.place p h

    field_alike : (x y : ASN1Value × FieldType) → FieldValuesAlike x y → field_denoted N y ≡ field_denoted M x
    field_alike (v, Open) y (f, ty, e) = ap (λ z. field_denoted N (y.0, z)) ty
    field_alike (v, Fixed g) y (f, ty, e) =
        ap (λ z. field_denoted N (y.0, z)) ty.1 ∙ ap (λ z. N.denotes Empty z (record { scope = Empty; ty = tagged ty.0 g })) e ∙ a.denotes Empty Empty refl f v _ _ (ty.0, Empty, refl, refl)

    path_denoted_alike : (s q : Scope) → ScopesAlike s q → (p r : Place) → PlacesAlike p r → (o name : List ℕ) → path_denoted others N q r o name ≡ path_denoted defs M s p o name
    path_denoted_alike s q k p r h o name = once_alike FieldValuesAlike Unsure _ _ _ _ (path_alike s q k o name) (λ x y e. shaped_alike p r h _ _ (field_alike x y e))

    defined_denoted_alike : (p r : Place) → PlacesAlike p r → (name : List ℕ) → defined_denoted others N r name ≡ defined_denoted defs M p name
    defined_denoted_alike p r h name = once_alike ValuesAlike Unsure _ _ _ _ (value_alike defs others seen name) (λ d e c. shaped_alike p r h _ _ (read_alike _ _ (defined_alike d e c)))

    name_denoted_alike : (s q : Scope) → ScopesAlike s q → (p r : Place) → PlacesAlike p r → (name : List ℕ) (b c : Option Bound) → BothAlike BoundsAlike b c → name_denoted others N q r name c ≡ name_denoted defs M s p name b
    name_denoted_alike s q k p r h name (Some b) c (u, e, is) =
        ap (name_denoted others N q r name) is ∙ once_alike ReadsAlike Unsure _ _ _ _ (argument_alike s q k b u e) (λ x y g. shaped_alike p r h _ _ (read_alike x y g))
    name_denoted_alike s q k p r h name None c is =
        ap (name_denoted others N q r name) is
        ∙ ap (λ z. own_or_defined z (defined_denoted others N r name)) (own_alike name p r h)
        ∙ ap (own_or_defined (own_name p name)) (defined_denoted_alike p r h name)

    reference_denoted_alike : (s q : Scope) → ScopesAlike s q → (p r : Place) → PlacesAlike p r → (o : Option (List ℕ)) (name : List ℕ) → reference_denoted others N q r o name ≡ reference_denoted defs M s p o name
    reference_denoted_alike s q k p r h None name = name_denoted_alike s q k p r h name _ _ (bound_alike s q k name)
    reference_denoted_alike s q k p r h (Some o) name = path_denoted_alike s q k p r h o name

    value_denoted_alike : (s q : Scope) → ScopesAlike s q → (f : TagChange) (p r : Place) → PlacesAlike p r → (w : Written) → value_denoted others N q r (written_kept f w) ≡ value_denoted defs M s p w
    value_denoted_alike s q k f p r h (NameWritten parent name) = reference_denoted_alike s q k p r h parent name
    value_denoted_alike s q k f p r h (ItemWritten name) = ap if_any (item_alike name p r h)
    value_denoted_alike s q k f p r h (NestedWritten v) = a.denotes s q k f v p r h
    value_denoted_alike s q k f p r h AllWritten = written_alike s q k f AllWritten p r h
    value_denoted_alike s q k f p r h NullWritten = written_alike s q k f NullWritten p r h
    value_denoted_alike s q k f p r h (TruthWritten b) = written_alike s q k f (TruthWritten b) p r h
    value_denoted_alike s q k f p r h (NumberWritten i) = written_alike s q k f (NumberWritten i) p r h
    value_denoted_alike s q k f p r h (RealWritten x) = written_alike s q k f (RealWritten x) p r h
    value_denoted_alike s q k f p r h (TextWritten x) = written_alike s q k f (TextWritten x) p r h
    value_denoted_alike s q k f p r h (BitsWritten x) = written_alike s q k f (BitsWritten x) p r h
    value_denoted_alike s q k f p r h (BitNamesWritten x) = written_alike s q k f (BitNamesWritten x) p r h
    value_denoted_alike s q k f p r h (OctetsWritten x) = written_alike s q k f (OctetsWritten x) p r h
    value_denoted_alike s q k f p r h (ArcsWritten x) = written_alike s q k f (ArcsWritten x) p r h
    value_denoted_alike s q k f p r h (BracesWritten x) = written_alike s q k f (BracesWritten x) p r h
    value_denoted_alike s q k f p r h (FieldsWritten x) = written_alike s q k f (FieldsWritten x) p r h
    value_denoted_alike s q k f p r h (ElementsWritten x) = written_alike s q k f (ElementsWritten x) p r h
    value_denoted_alike s q k f p r h (AlternativeWritten name v) = written_alike s q k f (AlternativeWritten name v) p r h

    under_head_alike : (s q : Scope) → ScopesAlike s q → (f : TagChange) (v : ASN1Value) (p r : Place) → PlacesAlike p r → denoted_under others N q (tagged_value f v) r ≡ denoted_under defs M s v p
    under_head_alike s q k f v p r h =
        ap (λ z. if z then Denoted Opaque else value_denoted others N q r (as_written (tagged_value f v))) (open_alike p r h)
        ∙ ap (λ z. if is_open p then Denoted Opaque else value_denoted others N q r z) (value_written_kept f v)
        ∙ ap (λ z. if is_open p then Denoted Opaque else z) (value_denoted_alike s q k f p r h (as_written v))

    pub denotes_at_alike : (s q : Scope) → ScopesAlike s q → (f : TagChange) (v : ASN1Value) (p r : Place) → PlacesAlike p r → denotes_at others N q (tagged_value f v) r ≡ denotes_at defs M s v p
    denotes_at_alike s q k f v p r h = once_alike PlacesAlike Unsure _ _ _ _ (a.head p r h) (under_head_alike s q k f v)

    -- ---- ALL

    read_all_alike : (x y : Read) → ReadsAlike x y → read_is_all N y ≡ read_is_all M x
    read_all_alike x y (f, s, k, p, h, e) = ap (read_is_all N) e ∙ a.is_all x.scope s k f x.value x.place p h

    defined_all_alike : (name : List ℕ) (p r : Place) → PlacesAlike p r → defined_is_all others N name r ≡ defined_is_all defs M name p
    defined_all_alike name p r h =
        ap (λ z. if is_some z then No else once No (value_named others name) (λ d. read_is_all N (defined_read d))) (own_alike name p r h)
        ∙ ap (λ z. if is_some (own_name p name) then No else z) (once_alike ValuesAlike No _ _ _ _ (value_alike defs others seen name) (λ d e c. read_all_alike _ _ (defined_alike d e c)))

    name_all_alike : (s q : Scope) → ScopesAlike s q → (p r : Place) → PlacesAlike p r → (name : List ℕ) (b c : Option Bound) → BothAlike BoundsAlike b c → name_is_all others N q r name c ≡ name_is_all defs M s p name b
    name_all_alike s q k p r h name (Some b) c (u, e, is) = ap (name_is_all others N q r name) is ∙ once_alike ReadsAlike No _ _ _ _ (argument_alike s q k b u e) read_all_alike
    name_all_alike s q k p r h name None c is = ap (name_is_all others N q r name) is ∙ once_alike PlacesAlike Unknown _ _ _ _ (a.head p r h) (defined_all_alike name)

    field_place_alike : (x y : FieldType) → FieldTypesAlike x y → PlacesAlike (field_place x) (field_place y)
    field_place_alike Open y e = subst (λ z. PlacesAlike plain_text (field_place z)) (sym e) text_place
    field_place_alike (Fixed ty) y (f, e) = (f, Empty, refl, ap field_place e)

    reference_all_alike : (s q : Scope) → ScopesAlike s q → (p r : Place) → PlacesAlike p r → (o : Option (List ℕ)) (name : List ℕ) → reference_is_all others N q r o name ≡ reference_is_all defs M s p o name
    reference_all_alike s q k p r h None name = name_all_alike s q k p r h name _ _ (bound_alike s q k name)
    reference_all_alike s q k p r h (Some o) name =
        once_alike FieldValuesAlike No _ _ _ _ (path_alike s q k o name) (λ x y e. ap (λ z. N.is_all Empty z (field_place y.1)) e.2 ∙ a.is_all Empty Empty refl e.0 x.0 _ _ (field_place_alike x.1 y.1 e.1))

    pub is_all_at_alike : (s q : Scope) → ScopesAlike s q → (f : TagChange) (p r : Place) → PlacesAlike p r → (w : Written) → is_all_at others N q r (written_kept f w) ≡ is_all_at defs M s p w
    is_all_at_alike s q k f p r h AllWritten = refl
    is_all_at_alike s q k f p r h (NameWritten parent name) = reference_all_alike s q k p r h parent name
    is_all_at_alike s q k f p r h (NestedWritten v) = a.is_all s q k f v p r h
    is_all_at_alike s q k f p r h _ = refl
