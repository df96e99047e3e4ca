-- A value that is one literal is in plain form under each head.
use Rattle.std.proofs.Common.{◌≡◌, ℕ, suc, List, [], ◌∷◌, Bool, true, false, Option, Some, None, map, refl, sym, ap, ◌∙◌}
use Rattle.asn_tree_headers.specs.declared.headers.ObjectIdentifierArc.{ObjectIdentifierArc}
use Rattle.std.specs.List.{list_all}
use Rattle.asn_tree.specs.Folds.{Algebra, constant, value_is, value_read}
use Rattle.asn_tree.specs.Layers.{ValueLayer}
use Rattle.asn_tree.specs.declared.values.ASN1Value.{ASN1Value, ASN1Value-F, out-ASN1Value}
use Rattle.asn_meaning.specs.Answers.{once}
use Rattle.asn_meaning.specs.Braces.{elements_written, fields_written}
use Rattle.asn_meaning.specs.Definitions.{Definitions}
use Rattle.asn_meaning.specs.Judge.{meaning}
use Rattle.asn_meaning.specs.Kinds.{Kind, NullKind, BooleanKind, IntegerKind, RealKind, BitStringKind, OctetStringKind, CharacterStringKind, TimeKind, EnumeratedKind, ObjectIdentifierKind, OpaqueKind, StructKind, ListKind, ChoiceKind, FieldKind, ReferenceKind, SelectionKind, kind_of}
use Rattle.asn_meaning.specs.Meaning.{Meaning}
use Rattle.asn_meaning.specs.Plain.{Plainness, choice_plain, fields_plain, is_nameless, linked_nameless, parts_of_value_plain, plainness, value_nameless, value_plain_at}
use Rattle.asn_meaning.specs.Scopes.{Scope, Place}
use Rattle.asn_meaning.specs.Written.{Written, AllWritten, NullWritten, TruthWritten, NumberWritten, RealWritten, TextWritten, BitsWritten, BitNamesWritten, OctetsWritten, ArcsWritten, ItemWritten, NameWritten, BracesWritten, FieldsWritten, ElementsWritten, AlternativeWritten, NestedWritten, as_written, written_at}
use Rattle.asn_meaning_unchanged.specs.Unchanged.{braced, is_single, literal, telling, value_form, with_arc, with_arcs, with_item, with_items}
use Rattle.asn_meaning_unchanged.specs.declared.literals.Literal.{Literal}
use Rattle.asn_meaning_unchanged.specs.declared.literals.Literal.TheVariants.{Single, Compound, Naming}

-- ---- what is written in one piece, without a name

abbrev is_leaf : Written → Bool
is_leaf AllWritten = true
is_leaf NullWritten = true
is_leaf (TruthWritten b) = true
is_leaf (NumberWritten i) = true
is_leaf (RealWritten x) = true
is_leaf (TextWritten s) = true
is_leaf (BitsWritten bits) = true
is_leaf (BitNamesWritten names) = false
is_leaf (OctetsWritten octets) = true
is_leaf (ArcsWritten arcs) = false
is_leaf (ItemWritten name) = false
is_leaf (NameWritten parent name) = false
is_leaf (BracesWritten items) = false
is_leaf (FieldsWritten fields) = false
is_leaf (ElementsWritten vs) = false
is_leaf (AlternativeWritten name v) = false
is_leaf (NestedWritten v) = false

no_fields : (w : Written) → is_leaf w ≡ true → fields_written w ≡ None
no_fields AllWritten h = refl
no_fields NullWritten h = refl
no_fields (TruthWritten b) h = refl
no_fields (NumberWritten i) h = refl
no_fields (RealWritten x) h = refl
no_fields (TextWritten s) h = refl
no_fields (BitsWritten bits) h = refl
no_fields (OctetsWritten octets) h = refl
no_fields (BitNamesWritten names) h = refl
no_fields (ArcsWritten arcs) h = absurd cc
no_fields (ItemWritten name) h = refl
no_fields (NameWritten parent name) h = refl
no_fields (BracesWritten items) h = absurd cc
no_fields (FieldsWritten fields) h = absurd cc
no_fields (ElementsWritten vs) h = refl
no_fields (AlternativeWritten name v) h = refl
no_fields (NestedWritten v) h = refl

no_elements : (w : Written) → is_leaf w ≡ true → elements_written w ≡ None
no_elements AllWritten h = refl
no_elements NullWritten h = refl
no_elements (TruthWritten b) h = refl
no_elements (NumberWritten i) h = refl
no_elements (RealWritten x) h = refl
no_elements (TextWritten s) h = refl
no_elements (BitsWritten bits) h = refl
no_elements (OctetsWritten octets) h = refl
no_elements (BitNamesWritten names) h = refl
no_elements (ArcsWritten arcs) h = absurd cc
no_elements (ItemWritten name) h = refl
no_elements (NameWritten parent name) h = refl
no_elements (BracesWritten items) h = absurd cc
no_elements (FieldsWritten fields) h = refl
no_elements (ElementsWritten vs) h = absurd cc
no_elements (AlternativeWritten name v) h = refl
no_elements (NestedWritten v) h = refl

module _ (M : Meaning) (P : Plainness) (inside : Scope) (v : ASN1Value) (nameless : is_nameless v ≡ true) where
  at_choice : (options : _) (w : Written) → is_leaf w ≡ true → choice_plain P inside options v w ≡ true
  at_choice options AllWritten h = nameless
  at_choice options NullWritten h = nameless
  at_choice options (TruthWritten b) h = nameless
  at_choice options (NumberWritten i) h = nameless
  at_choice options (RealWritten x) h = nameless
  at_choice options (TextWritten s) h = nameless
  at_choice options (BitsWritten bits) h = nameless
  at_choice options (OctetsWritten octets) h = nameless
  at_choice options (BitNamesWritten names) h = nameless
  at_choice options (ArcsWritten arcs) h = nameless
  at_choice options (ItemWritten name) h = nameless
  at_choice options (NameWritten parent name) h = nameless
  at_choice options (BracesWritten items) h = nameless
  at_choice options (FieldsWritten fields) h = nameless
  at_choice options (ElementsWritten vs) h = nameless
  at_choice options (AlternativeWritten name x) h = absurd cc
  at_choice options (NestedWritten x) h = nameless

  at_kind : (w : Written) → is_leaf w ≡ true → (k : Kind) → parts_of_value_plain M P v w inside k ≡ true
  at_kind w h NullKind = nameless
  at_kind w h BooleanKind = nameless
  at_kind w h (IntegerKind numbers) = nameless
  at_kind w h RealKind = nameless
  at_kind w h (BitStringKind bits) = refl
  at_kind w h OctetStringKind = nameless
  at_kind w h (CharacterStringKind ty) = nameless
  at_kind w h TimeKind = nameless
  at_kind w h (EnumeratedKind items) = nameless
  at_kind w h ObjectIdentifierKind = nameless
  at_kind w h OpaqueKind = nameless
  at_kind w h (StructKind x) = ap (λ o. once (is_nameless v) o (λ fs. once false (M.members inside x) (λ members. fields_plain P members fs))) (no_fields w h) ∙ nameless
  at_kind w h (ListKind ty) = ap (λ o. once (is_nameless v) o (λ vs. list_all (λ x. P.of_value x (record { scope = inside; ty = ty })) vs)) (no_elements w h) ∙ nameless
  at_kind w h (ChoiceKind options) = at_choice options w h
  at_kind w h (FieldKind x) = nameless
  at_kind w h (ReferenceKind x) = nameless
  at_kind w h (SelectionKind x) = nameless

  pub leaf_plain : (k : Kind) (w : Written) → is_leaf w ≡ true → value_plain_at M P inside k v w ≡ true
  leaf_plain k AllWritten h = at_kind AllWritten h k
  leaf_plain k NullWritten h = at_kind NullWritten h k
  leaf_plain k (TruthWritten b) h = at_kind (TruthWritten b) h k
  leaf_plain k (NumberWritten i) h = at_kind (NumberWritten i) h k
  leaf_plain k (RealWritten x) h = at_kind (RealWritten x) h k
  leaf_plain k (TextWritten s) h = at_kind (TextWritten s) h k
  leaf_plain k (BitsWritten bits) h = at_kind (BitsWritten bits) h k
  leaf_plain k (OctetsWritten octets) h = at_kind (OctetsWritten octets) h k
  leaf_plain k (BitNamesWritten names) h = absurd cc
  leaf_plain k (ArcsWritten arcs) h = absurd cc
  leaf_plain k (ItemWritten name) h = absurd cc
  leaf_plain k (NameWritten parent name) h = absurd cc
  leaf_plain k (BracesWritten items) h = absurd cc
  leaf_plain k (FieldsWritten fields) h = absurd cc
  leaf_plain k (ElementsWritten vs) h = absurd cc
  leaf_plain k (AlternativeWritten name x) h = absurd cc
  leaf_plain k (NestedWritten x) h = absurd cc

-- ---- one literal

no_braced : (l : Literal) → is_single (braced l) ≡ false
no_braced Single = refl
no_braced Compound = refl
no_braced Naming = refl

no_item : (l x : Literal) → is_single (with_item l x) ≡ false
no_item Single x = no_braced x
no_item Compound x = no_braced x
no_item Naming x = refl

no_items : (l : Literal) (xs : List Literal) → is_single l ≡ false → is_single (with_items l xs) ≡ false
no_items l [] h = h
no_items l (x ∷ xs) h = no_items (with_item l x) xs (no_item l x)

no_arc : (l : Literal) (name : Option (List ℕ)) (number : Option ℕ) → is_single l ≡ false → is_single (with_arc l (record { name = name; number = number })) ≡ false
no_arc l None number h = h
no_arc l (Some name) number h = refl

no_arcs : (l : Literal) (arcs : List ObjectIdentifierArc) → is_single l ≡ false → is_single (with_arcs l arcs) ≡ false
no_arcs l [] h = h
no_arcs l (arc ∷ arcs) h = no_arcs (with_arc l arc) arcs (no_arc l arc.name arc.number h)

abbrev naming : Algebra Bool
naming = record (constant true) { at_value = value_nameless; at_linked = linked_nameless }

-- what is known of a value that is one literal, from its layer
record Leaf (l : ValueLayer) : Type 0 where
  pub leaf : is_leaf (written_at l) ≡ true
  pub nameless : value_nameless (value_read naming l) ≡ true

true_false : {A : Type 0} (b : Bool) → b ≡ true → b ≡ false → A
true_false true h e = absurd cc
true_false false h e = absurd cc

-- what is told of items in braces
abbrev told : List (Option (List ℕ) × ASN1Value) → List Literal
told items = map (λ (p : Option (List ℕ) × Literal). p.1) (map (λ (p : Option (List ℕ) × ASN1Value). (p.0, literal p.1)) items)

single_leaf : (l : ValueLayer) → is_single (value_form (value_read telling l)) ≡ true → Leaf l
single_leaf ASN1Value-F.All h = record { leaf = refl; nameless = refl }
single_leaf ASN1Value-F.ASN1Value::Null h = record { leaf = refl; nameless = refl }
single_leaf (ASN1Value-F.ASN1Value::Boolean b) h = record { leaf = refl; nameless = refl }
single_leaf (ASN1Value-F.ASN1Value::Choice type name v) h = true_false (is_single (braced (literal v))) h (no_braced (literal v))
single_leaf (ASN1Value-F.SequenceOrSet items) h = true_false (is_single (with_items Compound (told items))) h (no_items Compound (told items) refl)
single_leaf (ASN1Value-F.ASN1Value::Integer i) h = record { leaf = refl; nameless = refl }
single_leaf (ASN1Value-F.ASN1Value::Real x) h = record { leaf = refl; nameless = refl }
single_leaf (ASN1Value-F.String s) h = record { leaf = refl; nameless = refl }
single_leaf (ASN1Value-F.ASN1Value::BitString bits) h = record { leaf = refl; nameless = refl }
single_leaf (ASN1Value-F.BitStringNamedBits names) h = absurd cc
single_leaf (ASN1Value-F.ASN1Value::OctetString octets) h = record { leaf = refl; nameless = refl }
single_leaf (ASN1Value-F.EnumeratedValue type name) h = absurd cc
single_leaf (ASN1Value-F.ASN1Value::Time s) h = record { leaf = refl; nameless = refl }
single_leaf (ASN1Value-F.ElsewhereDeclaredValue parent name) h = absurd cc
single_leaf (ASN1Value-F.ASN1Value::ObjectIdentifier x) h = true_false (is_single (with_arcs Compound x.0)) h (no_arcs Compound x.0 refl)
single_leaf (ASN1Value-F.LinkedNestedValue supertypes v) h = absurd cc
single_leaf (ASN1Value-F.LinkedIntValue kind i) h = absurd cc
single_leaf (ASN1Value-F.LinkedStructLikeValue fields) h = absurd cc
single_leaf (ASN1Value-F.LinkedArrayLikeValue vs) h = absurd cc
single_leaf (ASN1Value-F.LinkedCharStringValue kind s) h = absurd cc
single_leaf (ASN1Value-F.LinkedElsewhereDefinedValue parent name can_be_const) h = absurd cc

is_its_leaf : (v : ASN1Value) → is_single (literal v) ≡ true → Leaf (out-ASN1Value v)
is_its_leaf v h = single_leaf (out-ASN1Value v) (ap is_single (sym (value_is telling v)) ∙ h)

nameless_leaf : (v : ASN1Value) → Leaf (out-ASN1Value v) → is_nameless v ≡ true
unfolding is_nameless
nameless_leaf v l = value_is naming v ∙ l.nameless

-- A value that is one literal is plain under each head that is found.
pub single_plain : (defs : Definitions) (v : ASN1Value) → is_single (literal v) ≡ true → (n : ℕ) (p : Place) → (meaning defs n).head p ≡ Some p → (plainness defs (suc n)).of_value v p ≡ true
unfolding plainness
single_plain defs v h n p head =
    let l = is_its_leaf v h in
    ap (λ o. once false o (λ q. value_plain_at (meaning defs n) (plainness defs n) q.scope (kind_of q) v (as_written v))) head
    ∙ leaf_plain (meaning defs n) (plainness defs n) p.scope v (nameless_leaf v l) (kind_of p) (as_written v) l.leaf
