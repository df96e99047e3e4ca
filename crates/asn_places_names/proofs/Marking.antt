-- Names that are several, byte by byte.
use Rattle.std.proofs.Common.{◌≡◌, ℕ, ◌+◌, ◌<◌, ◌≤◌, List, Bool, true, false, drop, length, sym, ap, ◌∙◌}
use Rattle.std.proofs.lemmas.List.{drop_more, drop_all}
use Rattle.std.specs.Prelude.{◌||◌}
use Rattle.asn_needs.specs.Occurrences.{is_path}
use Rattle.asn_places_names.specs.inner.Paths.{begins_mark}

one_on : (xs : List ℕ) (i : ℕ) → i < length xs → is_path (drop i xs) ≡ (begins_mark (drop i xs) || is_path (drop (i + 1) xs))
one_on xs i lt = ap is_path (drop_more xs i 0 lt) ∙ ap (λ ys. begins_mark ys || is_path (drop (i + 1) xs)) (sym (drop_more xs i 0 lt))

by_mark : (xs : List ℕ) (i : ℕ) (b : Bool) → i < length xs → begins_mark (drop i xs) ≡ b → is_path (drop i xs) ≡ (b || is_path (drop (i + 1) xs))
by_mark xs i b lt e = one_on xs i lt ∙ ap (λ c. c || is_path (drop (i + 1) xs)) e

pub path_found : (xs : List ℕ) (i : ℕ) {whole : Bool} → i < length xs → begins_mark (drop i xs) ≡ true → is_path (drop i xs) ≡ whole → true ≡ whole
path_found xs i lt e h = sym (by_mark xs i true lt e) ∙ h

pub path_passed : (xs : List ℕ) (i : ℕ) {whole : Bool} → i < length xs → begins_mark (drop i xs) ≡ false → is_path (drop i xs) ≡ whole → is_path (drop (i + 1) xs) ≡ whole
path_passed xs i lt e h = sym (by_mark xs i false lt e) ∙ h

pub path_done : (xs : List ℕ) (i : ℕ) {whole : Bool} → length xs ≤ i → is_path (drop i xs) ≡ whole → false ≡ whole
path_done xs i le h = sym (ap is_path (drop_all i xs le)) ∙ h
