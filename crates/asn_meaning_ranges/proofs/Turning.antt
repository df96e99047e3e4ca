-- Lists of numbers at which a set is tried, item by item.
use Rattle.std.proofs.Common.{◌≡◌, ℕ, ◌+◌, ◌<◌, ◌≤◌, Bool, true, false, List, [], ◌∷◌, ◌++◌, drop, length, get_or, append-nil, append_assoc, refl, sym, ap, ◌∙◌}
use Rattle.std.specs.Prelude.{ℤ, pos, map, ◌||◌}
use Rattle.std.specs.List.{list_any}
use Rattle.std.proofs.lemmas.List.{drop_more, drop_all}
use Rattle.asn_meaning_ranges.specs.declared.wide.Wide.{Wide}
use Rattle.asn_meaning_ranges.specs.inner.Wides.{all_wide, wide}
use Rattle.asn_meaning.specs.Numbers.{around, before, behind}
use Rattle.asn_meaning.specs.ValueTrees.{same_number}

pub item_next : {A : Type 0} (out xs : List A) (i : ℕ) (x : A) → i < length xs → x ≡ get_or xs i x → (out ++ x ∷ []) ++ drop (i + 1) xs ≡ out ++ drop i xs
item_next out xs i x lt e =
    append_assoc out (x ∷ []) (drop (i + 1) xs) ∙ sym (ap (λ ys. out ++ ys) (drop_more xs i x lt ∙ ap (λ y. y ∷ drop (i + 1) xs) (sym e)))

pub items_done : {A : Type 0} (out xs : List A) (i : ℕ) → length xs ≤ i → out ++ drop i xs ≡ out
items_done out xs i le = ap (λ ys. out ++ ys) (drop_all i xs le) ∙ append-nil out

-- what stands from a place on is its item and what stands behind it
first : {A : Type 0} (xs : List A) (i : ℕ) (x : A) → i < length xs → x ≡ get_or xs i x → drop i xs ≡ x ∷ drop (i + 1) xs
first xs i x lt e = drop_more xs i x lt ∙ ap (λ y. y ∷ drop (i + 1) xs) (sym e)

-- ---- codes

pub code_next : (a more : List ℤ) (cs : List ℕ) (i c : ℕ) (w : ℤ) → i < length cs → c ≡ get_or cs i c → w ≡ pos c → more ≡ a ++ w ∷ [] → more ++ map pos (drop (i + 1) cs) ≡ a ++ map pos (drop i cs)
code_next a more cs i c w lt e f g =
    ap (λ xs. xs ++ map pos (drop (i + 1) cs)) (g ∙ ap (λ x. a ++ x ∷ []) f)
    ∙ append_assoc a (pos c ∷ []) (map pos (drop (i + 1) cs))
    ∙ sym (ap (λ xs. a ++ map pos xs) (first cs i c lt e))

pub codes_done : (a : List ℤ) (cs : List ℕ) (i : ℕ) → length cs ≤ i → a ++ map pos (drop i cs) ≡ a
codes_done a cs i le = ap (λ xs. a ++ map pos xs) (drop_all i cs le) ∙ append-nil a

one_of : (a b : Bool) → a ≡ true → (a || b) ≡ true
one_of true b e = refl
one_of false b e = absurd cc

other_of : (a b : Bool) → a ≡ false → (a || b) ≡ b
other_of false b e = refl
other_of true b e = absurd cc

pub is_next : (cs : List ℕ) (i c : ℕ) (n : ℤ) → i < length cs → c ≡ get_or cs i c → same_number (pos c) n ≡ true → list_any (λ c. same_number (pos c) n) (drop i cs) ≡ true
is_next cs i c n lt e f =
    ap (list_any (λ c. same_number (pos c) n)) (first cs i c lt e) ∙ one_of (same_number (pos c) n) (list_any (λ c. same_number (pos c) n) (drop (i + 1) cs)) f

pub not_next : (cs : List ℕ) (i c : ℕ) (n : ℤ) → i < length cs → c ≡ get_or cs i c → same_number (pos c) n ≡ false →
    list_any (λ c. same_number (pos c) n) (drop i cs) ≡ list_any (λ c. same_number (pos c) n) (drop (i + 1) cs)
not_next cs i c n lt e f =
    ap (list_any (λ c. same_number (pos c) n)) (first cs i c lt e) ∙ other_of (same_number (pos c) n) (list_any (λ c. same_number (pos c) n) (drop (i + 1) cs)) f

pub none_left : (cs : List ℕ) (i : ℕ) (n : ℤ) → length cs ≤ i → list_any (λ c. same_number (pos c) n) (drop i cs) ≡ false
none_left cs i n le = ap (list_any (λ c. same_number (pos c) n)) (drop_all i cs le)

-- ---- neighbours

pub around_next : (a more : List ℤ) (ws : List Wide) (i : ℕ) (w : Wide) → i < length ws → w ≡ get_or ws i w → more ≡ a ++ before (wide w) ∷ wide w ∷ behind (wide w) ∷ [] →
    more ++ around (all_wide (drop (i + 1) ws)) ≡ a ++ around (all_wide (drop i ws))
around_next a more ws i w lt e f =
    ap (λ xs. xs ++ around (all_wide (drop (i + 1) ws))) f
    ∙ append_assoc a (before (wide w) ∷ wide w ∷ behind (wide w) ∷ []) (around (all_wide (drop (i + 1) ws)))
    ∙ sym (ap (λ xs. a ++ around (all_wide xs)) (first ws i w lt e))

pub around_done : (a : List ℤ) (ws : List Wide) (i : ℕ) → length ws ≤ i → a ++ around (all_wide (drop i ws)) ≡ a
around_done a ws i le = ap (λ xs. a ++ around (all_wide xs)) (drop_all i ws le) ∙ append-nil a
