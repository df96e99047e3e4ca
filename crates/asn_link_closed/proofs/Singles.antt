-- A value that is one literal is written as it is under each head.
use Rattle.std.proofs.Common.{◌≡◌, ◌⊎◌, inl, inr, ℕ, suc, List, [], ◌∷◌, Bool, true, false, Option, Some, None, map, refl, sym, ap, ◌∙◌}
use Rattle.std.specs.Prelude.{◌||◌, if◌then◌else◌}
use Rattle.asn_tree_headers.specs.declared.headers.ObjectIdentifierArc.{ObjectIdentifierArc}
use Rattle.asn_tree.specs.Folds.{value_is, value_read}
use Rattle.asn_tree.specs.Layers.{ValueLayer}
use Rattle.asn_tree.specs.declared.types.ASN1Type.TheVariants as of_type
use Rattle.asn_tree_kinds.specs.declared.types.CharacterStringOver.{CharacterStringOver}
use Rattle.asn_tree_kinds.specs.declared.types.DistinguishedValue.{DistinguishedValue}
use Rattle.asn_tree.specs.declared.types.IntegerOver.{IntegerOver}
use Rattle.asn_tree.specs.declared.constraints.Constraint.{Constraint}
use Rattle.asn_tree.specs.declared.values.ASN1Value.{ASN1Value, ASN1Value-F, out-ASN1Value, roll-ASN1Value, roll-out-ASN1Value}
use Rattle.asn_tree.specs.declared.values.ASN1Value.TheVariants as value
use Rattle.asn_tree_leaves.specs.declared.plain.CharacterStringType.TheVariants.{UTF8String}
use Rattle.asn_meaning.specs.Answers.{No}
use Rattle.asn_meaning.specs.Definitions.{Definitions}
use Rattle.asn_meaning.specs.Everything.{is_all_at, plain_text}
use Rattle.asn_meaning.specs.Judge.{meaning, step}
use Rattle.asn_meaning.specs.Kinds.{kind_at, kind_of}
use Rattle.asn_meaning.specs.Meaning.{Meaning}
use Rattle.asn_meaning.specs.Ranges.{integer_named, named_numbers_in}
use Rattle.asn_meaning.specs.Scopes.{Scope, Place}
use Rattle.asn_meaning.specs.Written.{as_written, written_at}
use Rattle.asn_link_instance.specs.Literals.{all_or, is_item_name, is_literal, is_literal_under, is_own_arcs, is_own_head, single_written, value_written, written_by_tree}
use Rattle.asn_link_instance.specs.Subjects.{Subject, OnValues, OnCharacters, ends_read, values_read}
use Rattle.asn_meaning_unchanged.specs.Unchanged.{braced, is_single, literal, telling, value_form, with_arc, with_arcs, with_item, with_items}
use Rattle.asn_meaning_unchanged.specs.declared.literals.Literal.{Literal}
use Rattle.asn_meaning_unchanged.specs.declared.literals.Literal.TheVariants.{Single, Compound, Naming}

-- ---- one literal

no_braced : (l : Literal) → is_single (braced l) ≡ false
no_braced Single = refl
no_braced Compound = refl
no_braced Naming = refl

no_item : (l x : Literal) → is_single (with_item l x) ≡ false
no_item Single x = no_braced x
no_item Compound x = no_braced x
no_item Naming x = refl

no_items : (l : Literal) (xs : List Literal) → is_single l ≡ false → is_single (with_items l xs) ≡ false
no_items l [] h = h
no_items l (x ∷ xs) h = no_items (with_item l x) xs (no_item l x)

no_arc : (l : Literal) (name : Option (List ℕ)) (number : Option ℕ) → is_single l ≡ false →
    is_single (with_arc l (record { name = name; number = number })) ≡ false
no_arc l None number h = h
no_arc l (Some name) number h = refl

no_arcs : (l : Literal) (arcs : List ObjectIdentifierArc) → is_single l ≡ false → is_single (with_arcs l arcs) ≡ false
no_arcs l [] h = h
no_arcs l (arc ∷ arcs) h = no_arcs (with_arc l arc) arcs (no_arc l arc.name arc.number h)

true_false : {A : Type 0} (b : Bool) → b ≡ true → b ≡ false → A
true_false true h e = absurd cc
true_false false h e = absurd cc

-- what is told of items in braces
abbrev told : List (Option (List ℕ) × ASN1Value) → List Literal
told items = map (λ (p : Option (List ℕ) × Literal). p.1) (map (λ (p : Option (List ℕ) × ASN1Value). (p.0, literal p.1)) items)

-- it names nothing, and it stands for ALL only as the word itself
record Lone (l : ValueLayer) : Type 0 where
  pub literal : is_literal (written_at l) ≡ true
  pub all : (l ≡ ASN1Value-F.All) ⊎ ((defs : Definitions) (M : Meaning) (scope : Scope) (p : Place) → is_all_at defs M scope p (written_at l) ≡ No)

lone : (l : ValueLayer) → is_single (value_form (value_read telling l)) ≡ true → Lone l
lone ASN1Value-F.All h = record { literal = refl; all = inl refl }
lone ASN1Value-F.ASN1Value::Null h = record { literal = refl; all = inr (λ defs M scope p. refl) }
lone (ASN1Value-F.ASN1Value::Boolean b) h = record { literal = refl; all = inr (λ defs M scope p. refl) }
lone (ASN1Value-F.ASN1Value::Choice type name v) h = true_false (is_single (braced (literal v))) h (no_braced (literal v))
lone (ASN1Value-F.SequenceOrSet items) h = true_false (is_single (with_items Compound (told items))) h (no_items Compound (told items) refl)
lone (ASN1Value-F.ASN1Value::Integer i) h = record { literal = refl; all = inr (λ defs M scope p. refl) }
lone (ASN1Value-F.ASN1Value::Real x) h = record { literal = refl; all = inr (λ defs M scope p. refl) }
lone (ASN1Value-F.String s) h = record { literal = refl; all = inr (λ defs M scope p. refl) }
lone (ASN1Value-F.ASN1Value::BitString bits) h = record { literal = refl; all = inr (λ defs M scope p. refl) }
lone (ASN1Value-F.BitStringNamedBits names) h = absurd cc
lone (ASN1Value-F.ASN1Value::OctetString octets) h = record { literal = refl; all = inr (λ defs M scope p. refl) }
lone (ASN1Value-F.EnumeratedValue type name) h = absurd cc
lone (ASN1Value-F.ASN1Value::Time s) h = record { literal = refl; all = inr (λ defs M scope p. refl) }
lone (ASN1Value-F.ElsewhereDeclaredValue parent name) h = absurd cc
lone (ASN1Value-F.ASN1Value::ObjectIdentifier x) h = true_false (is_single (with_arcs Compound x.0)) h (no_arcs Compound x.0 refl)
lone (ASN1Value-F.LinkedNestedValue supertypes v) h = absurd cc
lone (ASN1Value-F.LinkedIntValue kind i) h = absurd cc
lone (ASN1Value-F.LinkedStructLikeValue fields) h = absurd cc
lone (ASN1Value-F.LinkedArrayLikeValue vs) h = absurd cc
lone (ASN1Value-F.LinkedCharStringValue kind s) h = absurd cc
lone (ASN1Value-F.LinkedElsewhereDefinedValue parent name can_be_const) h = absurd cc

lone_value : (v : ASN1Value) → is_single (literal v) ≡ true → Lone (out-ASN1Value v)
lone_value v h = lone (out-ASN1Value v) (ap is_single (sym (value_is telling v)) ∙ h)

-- ---- as it is written

written_same : (M : Meaning) (scope : Scope) (v : ASN1Value) (p : Place) → is_own_head (kind_of p) ≡ true → is_literal (as_written v) ≡ true →
    value_written M scope v p ≡ Some v
written_same M scope v p own h =
    let other = written_by_tree (M.is_all scope v p) (M.denotes scope v p) (kind_of p) in
    ap (λ b. if b then (if is_literal_under (kind_of p) (as_written v) || is_item_name scope (kind_of p) (as_written v) then Some v else other) else None) own
    ∙ ap (λ b. if (b || is_own_arcs (kind_of p) (as_written v)) || is_item_name scope (kind_of p) (as_written v) then Some v else other) h

pub end_same : (M : Meaning) (scope : Scope) (v : ASN1Value) (p : Place) → is_own_head (kind_of p) ≡ true → is_single (literal v) ≡ true →
    value_written M scope v p ≡ Some v
end_same M scope v p own h = written_same M scope v p own (lone_value v h).literal

pub single_same : (defs : Definitions) (n : ℕ) (scope : Scope) (v : ASN1Value) (p : Place) → is_own_head (kind_of p) ≡ true →
    is_single (literal v) ≡ true → single_written (meaning defs (suc n)) scope v p ≡ Some v
unfolding meaning step
single_same defs n scope v p own h = go (lone_value v h).all
  where
    go : (out-ASN1Value v ≡ ASN1Value-F.All) ⊎
        ((defs : Definitions) (M : Meaning) (scope : Scope) (p : Place) → is_all_at defs M scope p (as_written v) ≡ No) →
        single_written (meaning defs (suc n)) scope v p ≡ Some v
    go (inl e) =
        ap (λ l. all_or (is_all_at defs (meaning defs n) scope p (written_at l)) (value_written (meaning defs (suc n)) scope v p)) e
        ∙ ap Some (sym (roll-out-ASN1Value value.All) ∙ ap roll-ASN1Value (value.outs-All ∙ sym e) ∙ roll-out-ASN1Value v)
    go (inr other) = ap (λ a. all_or a (value_written (meaning defs (suc n)) scope v p)) (other defs (meaning defs n) scope p)
        ∙ end_same (meaning defs (suc n)) scope v p own h

-- ---- the types that values are read under

pub text_own : is_own_head (kind_of plain_text) ≡ true
text_own =
    let t : CharacterStringOver Constraint = record { constraints = []; ty = UTF8String } in
    ap (λ l. is_own_head (kind_at l)) (of_type.outs-CharacterString t)

pub number_own : (names : Option (List DistinguishedValue)) → is_own_head (kind_of (integer_named names)) ≡ true
number_own names =
    let t : IntegerOver Constraint = record { constraints = []; distinguished_values = names } in
    ap (λ l. is_own_head (kind_at l)) (of_type.outs-Integer t)

pub ends_own : (j : Subject) → is_own_head (kind_of (values_read j)) ≡ true → is_own_head (kind_of (ends_read j)) ≡ true
ends_own (OnValues head) own = number_own (named_numbers_in (kind_of head))
ends_own OnCharacters own = text_own
