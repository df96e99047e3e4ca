-- What stands between braces, one by one.
use Rattle.std.proofs.Common.{◌≡◌, ℕ, ◌+◌, ◌<◌, ◌≤◌, List, [], ◌∷◌, ◌++◌, map, drop, length, get_or, Option, Some, None, append-nil, append_assoc, refl, sym, ap, ◌∙◌}
use Rattle.std.proofs.lemmas.List.{drop_more, drop_all}
use Rattle.asn_tree.specs.declared.values.ASN1Value.{ASN1Value}
use Rattle.asn_tree.specs.declared.values.LinkedField.{LinkedField, out-LinkedField}
use Rattle.asn_tree_kinds.specs.declared.values.StructLikeFieldValueOver.TheVariants.{Explicit, Implicit}
use Rattle.asn_meaning_heads.specs.declared.values.ValueForm.{ValueForm}
use Rattle.asn_meaning_heads.specs.Values.{shown_value}
use Rattle.asn_meaning_values.specs.declared.braces.NamedValue.{NamedValue}
use Rattle.asn_meaning_values.specs.Braces.{shown_named, shown_named_values, shown_values}
use Rattle.asn_meaning_values.proofs.Listing.{before, none_before, one_before, together}
use Rattle.asn_meaning.specs.Answers.{once}
use Rattle.asn_meaning.specs.Braces.{all_named, all_unnamed}
use Rattle.asn_meaning.specs.Written.{Items, NamedValues, explicit_field, explicit_fields, if_explicit}

-- ---- lists

pub one_value_more : (all vs : List ValueForm) (v : ValueForm) → all ≡ vs ++ v ∷ [] → shown_values all ≡ shown_values vs ++ shown_value v ∷ []
one_value_more all vs v e = ap shown_values e ∙ together shown_value vs (v ∷ [])

pub one_field_more : (all xs : List NamedValue) (x : NamedValue) → all ≡ xs ++ x ∷ [] → shown_named_values all ≡ shown_named_values xs ++ shown_named x ∷ []
one_field_more all xs x e = ap shown_named_values e ∙ together shown_named xs (x ∷ [])

-- ---- items with names

pub named_begin : (items : Items) → before [] (all_named items) ≡ all_named items
named_begin items = none_before (all_named items)

named_first : (out : NamedValues) (items : Items) (i : ℕ) (item : Option (List ℕ) × ASN1Value) → i < length items → item ≡ get_or items i item →
    before out (all_named (drop i items)) ≡ before out (all_named (item ∷ drop (i + 1) items))
named_first out items i item lt e = ap (λ xs. before out (all_named xs)) (drop_more items i item lt ∙ ap (λ x. x ∷ drop (i + 1) items) (sym e))

pub named_next : (out : NamedValues) (items : Items) (i : ℕ) (item : Option (List ℕ) × ASN1Value) (name : List ℕ) → i < length items → item ≡ get_or items i item → item.0 ≡ Some name →
    before (out ++ (name, item.1) ∷ []) (all_named (drop (i + 1) items)) ≡ before out (all_named (drop i items))
named_next out items i item name lt e is =
    sym (named_first out items i item lt e
    ∙ ap (λ n. before out (all_named ((n, item.1) ∷ drop (i + 1) items))) is
    ∙ one_before out (name, item.1) (all_named (drop (i + 1) items)))

pub named_lost : (out : NamedValues) (items : Items) (i : ℕ) (item : Option (List ℕ) × ASN1Value) → i < length items → item ≡ get_or items i item → item.0 ≡ None →
    before out (all_named (drop i items)) ≡ None
named_lost out items i item lt e is = named_first out items i item lt e ∙ ap (λ n. before out (all_named ((n, item.1) ∷ drop (i + 1) items))) is

pub named_done : (out : NamedValues) (items : Items) (i : ℕ) → length items ≤ i → before out (all_named (drop i items)) ≡ Some out
named_done out items i le = ap (λ xs. before out (all_named xs)) (drop_all i items le) ∙ ap Some (append-nil out)

-- ---- items without names

pub unnamed_begin : (items : Items) → before [] (all_unnamed items) ≡ all_unnamed items
unnamed_begin items = none_before (all_unnamed items)

unnamed_first : (out : List ASN1Value) (items : Items) (i : ℕ) (item : Option (List ℕ) × ASN1Value) → i < length items → item ≡ get_or items i item →
    before out (all_unnamed (drop i items)) ≡ before out (all_unnamed (item ∷ drop (i + 1) items))
unnamed_first out items i item lt e = ap (λ xs. before out (all_unnamed xs)) (drop_more items i item lt ∙ ap (λ x. x ∷ drop (i + 1) items) (sym e))

pub unnamed_next : (out : List ASN1Value) (items : Items) (i : ℕ) (item : Option (List ℕ) × ASN1Value) → i < length items → item ≡ get_or items i item → item.0 ≡ None →
    before (out ++ item.1 ∷ []) (all_unnamed (drop (i + 1) items)) ≡ before out (all_unnamed (drop i items))
unnamed_next out items i item lt e is =
    sym (unnamed_first out items i item lt e
    ∙ ap (λ n. before out (all_unnamed ((n, item.1) ∷ drop (i + 1) items))) is
    ∙ one_before out item.1 (all_unnamed (drop (i + 1) items)))

pub unnamed_lost : (out : List ASN1Value) (items : Items) (i : ℕ) (item : Option (List ℕ) × ASN1Value) (name : List ℕ) → i < length items → item ≡ get_or items i item → item.0 ≡ Some name →
    before out (all_unnamed (drop i items)) ≡ None
unnamed_lost out items i item name lt e is = unnamed_first out items i item lt e ∙ ap (λ n. before out (all_unnamed ((n, item.1) ∷ drop (i + 1) items))) is

pub unnamed_done : (out : List ASN1Value) (items : Items) (i : ℕ) → length items ≤ i → before out (all_unnamed (drop i items)) ≡ Some out
unnamed_done out items i le = ap (λ xs. before out (all_unnamed xs)) (drop_all i items le) ∙ ap Some (append-nil out)

-- ---- fields that are written

explicit_first : (out : NamedValues) (fields : List LinkedField) (i : ℕ) (x : LinkedField) → i < length fields → x ≡ get_or fields i x →
    out ++ explicit_fields (drop i fields) ≡ out ++ (explicit_field (out-LinkedField x) ++ explicit_fields (drop (i + 1) fields))
explicit_first out fields i x lt e = ap (λ xs. out ++ explicit_fields xs) (drop_more fields i x lt ∙ ap (λ y. y ∷ drop (i + 1) fields) (sym e))

pub explicit_taken : (out : NamedValues) (fields : List LinkedField) (i : ℕ) (x : LinkedField) (v : ASN1Value) → i < length fields → x ≡ get_or fields i x → (out-LinkedField x).value ≡ Explicit v →
    (out ++ ((out-LinkedField x).name, v) ∷ []) ++ explicit_fields (drop (i + 1) fields) ≡ out ++ explicit_fields (drop i fields)
explicit_taken out fields i x v lt e is =
    sym (explicit_first out fields i x lt e
    ∙ ap (λ y. out ++ (if_explicit (out-LinkedField x).name y ++ explicit_fields (drop (i + 1) fields))) is
    ∙ sym (append_assoc out (((out-LinkedField x).name, v) ∷ []) (explicit_fields (drop (i + 1) fields))))

pub explicit_passed : (out : NamedValues) (fields : List LinkedField) (i : ℕ) (x : LinkedField) (v : ASN1Value) → i < length fields → x ≡ get_or fields i x → (out-LinkedField x).value ≡ Implicit v →
    out ++ explicit_fields (drop (i + 1) fields) ≡ out ++ explicit_fields (drop i fields)
explicit_passed out fields i x v lt e is =
    sym (explicit_first out fields i x lt e ∙ ap (λ y. out ++ (if_explicit (out-LinkedField x).name y ++ explicit_fields (drop (i + 1) fields))) is)

pub explicit_done : (out : NamedValues) (fields : List LinkedField) (i : ℕ) → length fields ≤ i → out ++ explicit_fields (drop i fields) ≡ out
explicit_done out fields i le = ap (λ xs. out ++ explicit_fields xs) (drop_all i fields le) ∙ append-nil out
