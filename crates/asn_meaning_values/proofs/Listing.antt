-- Lists that are put together item by item.
use Rattle.std.proofs.Common.{◌≡◌, ℕ, ◌+◌, ◌<◌, ◌≤◌, List, [], ◌∷◌, ◌++◌, map, drop, length, get_or, Option, Some, None, append-nil, append_assoc, refl, sym, ap, ◌∙◌}
use Rattle.std.proofs.lemmas.List.{drop_more, drop_all}
use Rattle.asn_meaning.specs.Answers.{once}

pub together : {A B : Type 0} (f : A → B) (xs ys : List A) → map f (xs ++ ys) ≡ map f xs ++ map f ys
together f [] ys = refl
together f (x ∷ xs) ys = ap (λ zs. f x ∷ zs) (together f xs ys)

-- these before those, once those are known
abbrev pub before : {A : Type 0} → List A → Option (List A) → Option (List A)
before xs None = None
before xs (Some ys) = Some (xs ++ ys)

pub none_before : {A : Type 0} (b : Option (List A)) → before [] b ≡ b
none_before None = refl
none_before (Some ys) = refl

pub one_before : {A : Type 0} (xs : List A) (x : A) (b : Option (List A)) → before xs (once None b (λ ys. Some (x ∷ ys))) ≡ before (xs ++ x ∷ []) b
one_before xs x None = refl
one_before xs x (Some ys) = ap Some (sym (append_assoc xs (x ∷ []) ys))

pub item_next : {A : Type 0} (out xs : List A) (i : ℕ) (x : A) → i < length xs → x ≡ get_or xs i x → (out ++ x ∷ []) ++ drop (i + 1) xs ≡ out ++ drop i xs
item_next out xs i x lt e =
    append_assoc out (x ∷ []) (drop (i + 1) xs) ∙ sym (ap (λ ys. out ++ ys) (drop_more xs i x lt ∙ ap (λ y. y ∷ drop (i + 1) xs) (sym e)))

pub items_done : {A : Type 0} (out xs : List A) (i : ℕ) → length xs ≤ i → out ++ drop i xs ≡ out
items_done out xs i le = ap (λ ys. out ++ ys) (drop_all i xs le) ∙ append-nil out
