-- Lists that are copied item by item.
use Rattle.std.proofs.Common.{◌≡◌, ℕ, ◌+◌, ◌<◌, ◌≤◌, List, [], ◌∷◌, ◌++◌, drop, length, get_or, append-nil, append_assoc, sym, ap, ◌∙◌}
use Rattle.std.proofs.lemmas.List.{drop_more, drop_all}

pub item_next : {A : Type 0} (out xs : List A) (i : ℕ) (x : A) → i < length xs → x ≡ get_or xs i x → (out ++ x ∷ []) ++ drop (i + 1) xs ≡ out ++ drop i xs
item_next out xs i x lt e =
    append_assoc out (x ∷ []) (drop (i + 1) xs) ∙ sym (ap (λ ys. out ++ ys) (drop_more xs i x lt ∙ ap (λ y. y ∷ drop (i + 1) xs) (sym e)))

pub items_done : {A : Type 0} (out xs : List A) (i : ℕ) → length xs ≤ i → out ++ drop i xs ≡ out
items_done out xs i le = ap (λ ys. out ++ ys) (drop_all i xs le) ∙ append-nil out
