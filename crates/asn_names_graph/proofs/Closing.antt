-- Marks of nodes that come out.
use Rattle.std.proofs.Common.{◌≡◌, ℕ, zero, suc, ◌+◌, ◌<◌, ◌≤◌, ◌⊎◌, inl, inr, List, [], ◌∷◌, ◌++◌, length, drop, get_or, refl, ap, sym, ◌∙◌, arith, add-one, drop-cons, append_assoc, get_or-set_same, get_or-set_other}
use Rattle.std.proofs.Math.ListN.{set}
use Rattle.std.proofs.lemmas.List.{length-set}
use Rattle.std.proofs.lemmas.Bool.{cases_eq}
use Rattle.asn_names_graph.specs.declared.mark.Mark.{Mark}
use Rattle.asn_names_graph.specs.declared.mark.Mark.TheVariants.{New, OnPath, Done}
use Rattle.asn_names_graph.specs.inner.State.{closed_marks, mark_of}
use Rattle.asn_names_graph.specs.inner.Valid.{one_if_new, new_count}

next_first : (xs : List ℕ) (i : ℕ) → i < length xs → drop i xs ≡ get_or xs i 0 ∷ drop (i + 1) xs
next_first xs i h = rw (add-one, drop-cons xs i 0)

pub closed_step : (part : ℕ) (xs : List ℕ) (ms : List Mark) (i : ℕ) → i < length xs → closed_marks part (drop (i + 1) xs) (set ms (get_or xs i 0) (Done part)) ≡ closed_marks part (drop i xs) ms
closed_step part xs ms i h = sym (ap (λ ys. closed_marks part ys ms) (next_first xs i h))

pub order_step : (xs order : List ℕ) (i : ℕ) → i < length xs → (order ++ get_or xs i 0 ∷ []) ++ drop (i + 1) xs ≡ order ++ drop i xs
order_step xs order i h = append_assoc order (get_or xs i 0 ∷ []) (drop (i + 1) xs) ∙ sym (ap (λ ys. order ++ ys) (next_first xs i h))

-- what is not in the list keeps its mark
pub closed_out : (part : ℕ) (xs : List ℕ) (ms : List Mark) (y : ℕ) → ((k : ℕ) → k < length xs → get_or xs k 0 ≡ y → ⊥) → mark_of (closed_marks part xs ms) y ≡ mark_of ms y
closed_out part [] ms y unless = refl
closed_out part (x ∷ xs) ms y unless =
    closed_out part xs (set ms x (Done part)) y (λ k h e. unless (suc k) (omega arith) e)
    ∙ get_or-set_other ms x y (Done part) New (λ e. unless 0 (omega arith) (sym e))

closed_stays : (part : ℕ) (xs : List ℕ) (ms : List Mark) (y : ℕ) → y < length ms → mark_of ms y ≡ Done part → mark_of (closed_marks part xs ms) y ≡ Done part
closed_stays part [] ms y h e = e
closed_stays part (x ∷ xs) ms y h e =
    closed_stays part xs (set ms x (Done part)) y (let l : length (set ms x (Done part)) ≡ length ms = length-set ms x (Done part) in omega arith) (go (cases_eq y x))
  where
    go : (y ≡ x) ⊎ (y ≡ x → ⊥) → mark_of (set ms x (Done part)) y ≡ Done part
    go (inl i) = ap (λ k. mark_of (set ms k (Done part)) y) (sym i) ∙ get_or-set_same ms y (Done part) New h
    go (inr n) = get_or-set_other ms x y (Done part) New n ∙ e

-- what is in the list is done
pub closed_in : (part : ℕ) (xs : List ℕ) (ms : List Mark) (y k : ℕ) → k < length xs → get_or xs k 0 ≡ y → y < length ms → mark_of (closed_marks part xs ms) y ≡ Done part
closed_in part [] ms y k h e l = absurd (omega arith)
closed_in part (x ∷ xs) ms y zero h e l =
    closed_stays part xs (set ms x (Done part)) y (let i : length (set ms x (Done part)) ≡ length ms = length-set ms x (Done part) in omega arith) (ap (λ z. mark_of (set ms z (Done part)) y) e ∙ get_or-set_same ms y (Done part) New l)
closed_in part (x ∷ xs) ms y (suc k) h e l =
    closed_in part xs (set ms x (Done part)) y k (omega arith) e (let i : length (set ms x (Done part)) ≡ length ms = length-set ms x (Done part) in omega arith)

pub length-closed_marks : (part : ℕ) (xs : List ℕ) (ms : List Mark) → length (closed_marks part xs ms) ≡ length ms
length-closed_marks part [] ms = refl
length-closed_marks part (x ∷ xs) ms = length-closed_marks part xs (set ms x (Done part)) ∙ length-set ms x (Done part)

new_count-set : (ms : List Mark) (x part : ℕ) → new_count (set ms x (Done part)) ≤ new_count ms
new_count-set [] x part = omega arith
new_count-set (m ∷ ms) zero part = omega arith
new_count-set (m ∷ ms) (suc x) part = omega (arith, new_count-set ms x part)

-- nodes that come out are none the more new
pub new_count-closed : (part : ℕ) (xs : List ℕ) (ms : List Mark) → new_count (closed_marks part xs ms) ≤ new_count ms
new_count-closed part [] ms = omega arith
new_count-closed part (x ∷ xs) ms = omega (arith, new_count-closed part xs (set ms x (Done part)), new_count-set ms x part)

-- a node that is put on the path is new no more
pub new_count-visited : (ms : List Mark) (y place : ℕ) → y < length ms → mark_of ms y ≡ New → new_count (set ms y (OnPath place)) + 1 ≡ new_count ms
new_count-visited [] y place h e = absurd (omega arith)
new_count-visited (m ∷ ms) zero place h e = let n : one_if_new m ≡ 1 = ap one_if_new e in omega arith
new_count-visited (m ∷ ms) (suc y) place h e = omega (arith, new_count-visited ms y place (omega arith) e)
