-- Whether a set has a number of a list, number by number.
use Rattle.std.proofs.Common.{◌≡◌, ℕ, ◌+◌, ◌<◌, ◌≤◌, Bool, true, false, List, ◌∷◌, drop, length, get_or, refl, sym, ap, ◌∙◌}
use Rattle.std.specs.Prelude.{ℤ, int_lt, ◌&&◌, ◌||◌}
use Rattle.std.specs.List.{list_any}
use Rattle.std.proofs.lemmas.List.{drop_more, drop_all}
use Rattle.asn_meaning_ranges.specs.declared.wide.Wide.{Wide}
use Rattle.asn_meaning_ranges.specs.inner.Wides.{all_wide, wide}
use Rattle.asn_meaning.specs.Numbers.{Numbers}

abbrev below : Numbers → ℤ → ℤ → Bool
below s n k = int_lt k n && s.has k

abbrev above : Numbers → ℤ → ℤ → Bool
above s n k = int_lt n k && s.has k

first : (test : ℤ → Bool) (ws : List Wide) (i : ℕ) (w : Wide) → i < length ws → w ≡ get_or ws i w →
    list_any test (all_wide (drop i ws)) ≡ (test (wide w) || list_any test (all_wide (drop (i + 1) ws)))
first test ws i w lt e = ap (λ xs. list_any test (all_wide xs)) (drop_more ws i w lt ∙ ap (λ x. x ∷ drop (i + 1) ws) (sym e))

taken : (a b c : Bool) → a ≡ true → b ≡ true → ((a && b) || c) ≡ true
taken true true c e f = refl
taken true false c e f = absurd cc
taken false b c e f = absurd cc

left : (a b c : Bool) → a ≡ false → ((a && b) || c) ≡ c
left false b c e = refl
left true b c e = absurd cc

refused : (a b c : Bool) → b ≡ false → ((a && b) || c) ≡ c
refused true false c e = refl
refused false false c e = refl
refused a true c e = absurd cc

pub none_left : (test : ℤ → Bool) (ws : List Wide) (i : ℕ) → length ws ≤ i → list_any test (all_wide (drop i ws)) ≡ false
none_left test ws i le = ap (λ xs. list_any test (all_wide xs)) (drop_all i ws le)

pub here : (s : Numbers) (n : ℤ) (ws : List Wide) (i : ℕ) (w : Wide) → i < length ws → w ≡ get_or ws i w → int_lt (wide w) n ≡ true → s.has (wide w) ≡ true →
    list_any (λ k. int_lt k n && s.has k) (all_wide (drop i ws)) ≡ true
here s n ws i w lt e f g = first (below s n) ws i w lt e ∙ taken (int_lt (wide w) n) (s.has (wide w)) (list_any (below s n) (all_wide (drop (i + 1) ws))) f g

pub not_below : (s : Numbers) (n : ℤ) (ws : List Wide) (i : ℕ) (w : Wide) → i < length ws → w ≡ get_or ws i w → int_lt (wide w) n ≡ false →
    list_any (λ k. int_lt k n && s.has k) (all_wide (drop i ws)) ≡ list_any (λ k. int_lt k n && s.has k) (all_wide (drop (i + 1) ws))
not_below s n ws i w lt e f = first (below s n) ws i w lt e ∙ left (int_lt (wide w) n) (s.has (wide w)) (list_any (below s n) (all_wide (drop (i + 1) ws))) f

pub not_there : (s : Numbers) (n : ℤ) (ws : List Wide) (i : ℕ) (w : Wide) → i < length ws → w ≡ get_or ws i w → s.has (wide w) ≡ false →
    list_any (λ k. int_lt k n && s.has k) (all_wide (drop i ws)) ≡ list_any (λ k. int_lt k n && s.has k) (all_wide (drop (i + 1) ws))
not_there s n ws i w lt e f = first (below s n) ws i w lt e ∙ refused (int_lt (wide w) n) (s.has (wide w)) (list_any (below s n) (all_wide (drop (i + 1) ws))) f

pub here_above : (s : Numbers) (n : ℤ) (ws : List Wide) (i : ℕ) (w : Wide) → i < length ws → w ≡ get_or ws i w → int_lt n (wide w) ≡ true → s.has (wide w) ≡ true →
    list_any (λ k. int_lt n k && s.has k) (all_wide (drop i ws)) ≡ true
here_above s n ws i w lt e f g = first (above s n) ws i w lt e ∙ taken (int_lt n (wide w)) (s.has (wide w)) (list_any (above s n) (all_wide (drop (i + 1) ws))) f g

pub not_above : (s : Numbers) (n : ℤ) (ws : List Wide) (i : ℕ) (w : Wide) → i < length ws → w ≡ get_or ws i w → int_lt n (wide w) ≡ false →
    list_any (λ k. int_lt n k && s.has k) (all_wide (drop i ws)) ≡ list_any (λ k. int_lt n k && s.has k) (all_wide (drop (i + 1) ws))
not_above s n ws i w lt e f = first (above s n) ws i w lt e ∙ left (int_lt n (wide w)) (s.has (wide w)) (list_any (above s n) (all_wide (drop (i + 1) ws))) f

pub not_there_above : (s : Numbers) (n : ℤ) (ws : List Wide) (i : ℕ) (w : Wide) → i < length ws → w ≡ get_or ws i w → s.has (wide w) ≡ false →
    list_any (λ k. int_lt n k && s.has k) (all_wide (drop i ws)) ≡ list_any (λ k. int_lt n k && s.has k) (all_wide (drop (i + 1) ws))
not_there_above s n ws i w lt e f = first (above s n) ws i w lt e ∙ refused (int_lt n (wide w)) (s.has (wide w)) (list_any (above s n) (all_wide (drop (i + 1) ws))) f
