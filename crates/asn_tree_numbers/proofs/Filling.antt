-- A set that is filled from a list has what the list has.
use Rattle.std.proofs.Common.{◌≡◌, ℕ, ◌+◌, ◌<◌, ℤ, pos, Bool, true, false, cond, ◌||◌, List, [], ◌∷◌, ◌++◌, length, take, get_or, refl, ap, sym, ◌∙◌}
use Rattle.std.specs.Ordering.{int_eq}
use Rattle.std.proofs.lemmas.List.{take_more}
use Rattle.asn_tree_numbers.specs.Enumeration.{has}

has_behind : (xs : List ℤ) (n q : ℤ) → has (xs ++ n ∷ []) q ≡ cond (int_eq n q) true (has xs q)
has_behind [] n q = go (int_eq n q)
  where
    go : (b : Bool) → (b || false) ≡ cond b true false
    go true = refl
    go false = refl
has_behind (x ∷ xs) n q = ap (λ b. int_eq x q || b) (has_behind xs n q) ∙ go (int_eq x q) (int_eq n q)
  where
    go : (a b : Bool) → (a || cond b true (has xs q)) ≡ cond b true (a || has xs q)
    go true true = refl
    go true false = refl
    go false true = refl
    go false false = refl

pub set_more : (xs : List ℤ) (i : ℕ) (n : ℤ) (f g : ℤ → Bool) → i < length xs → n ≡ get_or xs i (pos 0) → ((q : ℤ) → f q ≡ has (take i xs) q) → ((q : ℤ) → g q ≡ cond (int_eq n q) true (f q)) → (q : ℤ) → g q ≡ has (take (i + 1) xs) q
set_more xs i n f g h e before step q =
    let more : take (i + 1) xs ≡ take i xs ++ n ∷ [] = take_more xs i (pos 0) h ∙ ap (λ x. take i xs ++ x ∷ []) (sym e) in
    step q ∙ ap (λ b. cond (int_eq n q) true b) (before q) ∙ sym (has_behind (take i xs) n q) ∙ ap (λ ys. has ys q) (sym more)
