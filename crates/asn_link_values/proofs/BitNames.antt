-- Values that are names, one by one.
use Rattle.std.proofs.Common.{◌≡◌, ℕ, ◌+◌, ◌<◌, ◌≤◌, List, ◌∷◌, drop, length, get_or, true, false, Option, Some, None, refl, sym, ap, ◌∙◌}
use Rattle.std.specs.Prelude.{is_some, ◌&&◌}
use Rattle.std.proofs.lemmas.List.{drop_more, drop_all}
use Rattle.asn_tree.specs.declared.values.ASN1Value.{ASN1Value}
use Rattle.asn_meaning_heads.specs.declared.values.ValueForm.{ValueForm}
use Rattle.asn_meaning_heads.specs.Values.{shown_value}
use Rattle.asn_meaning_values.specs.Bits.{names_of_elements}
use Rattle.asn_meaning_values.specs.Braces.{shown_values}
use Rattle.asn_meaning.specs.Answers.{once}
use Rattle.asn_meaning.specs.Braces.{elements_written}
use Rattle.asn_meaning.specs.Rows.{reference_name, reference_names}
use Rattle.asn_meaning.specs.Written.{Written, as_written}

both_names : (name : Option (List ℕ)) (names : Option (List (List ℕ))) → is_some (once None name (λ x. once None names (λ xs. Some (x ∷ xs)))) ≡ (is_some name && is_some names)
both_names None names = refl
both_names (Some x) None = refl
both_names (Some x) (Some xs) = refl

names_first : (vs : List ValueForm) (i : ℕ) (v : ValueForm) → i < length vs → v ≡ get_or vs i v →
    is_some (reference_names (shown_values (drop i vs))) ≡ (is_some (reference_name (as_written (shown_value v))) && is_some (reference_names (shown_values (drop (i + 1) vs))))
names_first vs i v lt e =
    ap (λ xs. is_some (reference_names (shown_values xs))) (drop_more vs i v lt ∙ ap (λ x. x ∷ drop (i + 1) vs) (sym e))
    ∙ both_names (reference_name (as_written (shown_value v))) (reference_names (shown_values (drop (i + 1) vs)))

pub name_next : (vs : List ValueForm) (i : ℕ) (v : ValueForm) → i < length vs → v ≡ get_or vs i v → is_some (reference_name (as_written (shown_value v))) ≡ true →
    is_some (reference_names (shown_values (drop (i + 1) vs))) ≡ is_some (reference_names (shown_values (drop i vs)))
name_next vs i v lt e is = sym (names_first vs i v lt e ∙ ap (λ b. b && is_some (reference_names (shown_values (drop (i + 1) vs)))) is)

pub name_lost : (vs : List ValueForm) (i : ℕ) (v : ValueForm) → i < length vs → v ≡ get_or vs i v → is_some (reference_name (as_written (shown_value v))) ≡ false →
    is_some (reference_names (shown_values (drop i vs))) ≡ false
name_lost vs i v lt e is = names_first vs i v lt e ∙ ap (λ b. b && is_some (reference_names (shown_values (drop (i + 1) vs)))) is

pub names_done : (vs : List ValueForm) (i : ℕ) → length vs ≤ i → is_some (reference_names (shown_values (drop i vs))) ≡ true
names_done vs i le = ap (λ xs. is_some (reference_names (shown_values xs))) (drop_all i vs le)

pub no_elements : (w : Written) → elements_written w ≡ None → is_some (names_of_elements w) ≡ false
no_elements w e = ap (λ vs. is_some (once None vs reference_names)) e

pub some_elements : (w : Written) (vs : List ASN1Value) → elements_written w ≡ Some vs → is_some (names_of_elements w) ≡ is_some (reference_names vs)
some_elements w vs e = ap (λ vs. is_some (once None vs reference_names)) e
