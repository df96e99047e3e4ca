-- Lists of numbers from high to low, marks after one was set, and what is left to do.
use Rattle.std.proofs.Common.{◌≡◌, ℕ, zero, suc, ◌+◌, ◌<◌, ◌≤◌, ◌⊎◌, inl, inr, Bool, true, false, cond, Some, None, List, [], ◌∷◌, length, get_or, refl, ap, sym, ◌∙◌, subst, arith, get_or-set_same, get_or-set_other, leb}
use Rattle.std.proofs.Math.ListN.{set}
use Rattle.std.proofs.lemmas.Bool.{cases_eq, leb-true, leb-false}
use Rattle.asn_names_graph.specs.Graphs.{Edges, Has}
use Rattle.asn_names_graph.specs.declared.mark.Mark.{Mark}
use Rattle.asn_names_graph.specs.declared.mark.Mark.TheVariants.{New, OnPath, Done}
use Rattle.asn_names_graph.specs.inner.State.{top_of, under, down_to, mark_of}
use Rattle.asn_names_graph.specs.inner.Valid.{Leads, here, onward, Descends, edges_left}

pub here_at : (g : Edges) (x y : ℕ) → x ≡ y → Leads g x y
here_at g x y e = subst (λ z. Leads g x z) e here

pub leads_on : {g : Edges} {x y z : ℕ} → Leads g x y → Leads g y z → Leads g x z
leads_on l here = l
leads_on l (onward m e) = onward (leads_on l m) e

-- a list with a top is that top above what is under it
pub top_split : (xs : List ℕ) (p : ℕ) → top_of xs ≡ Some p → xs ≡ p ∷ under xs
top_split [] p e = cc
top_split (x ∷ xs) p e = let i : x ≡ p = cc in ap (λ y. y ∷ xs) i

-- the top is the highest
pub top_highest : (xs : List ℕ) (p b : ℕ) → top_of xs ≡ Some p → Descends xs → Has xs b → b ≤ p
top_highest [] p b e d h = absurd h
top_highest (x ∷ xs) p b e d (inl i) = let j : x ≡ p = cc in omega arith
top_highest (x ∷ xs) p b e d (inr i) = let j : x ≡ p = cc in let k : b < x = d.0 b i in omega arith

pub top_has : (xs : List ℕ) (p : ℕ) → top_of xs ≡ Some p → Has xs p
top_has [] p e = cc
top_has (x ∷ xs) p e = inl cc

pub none_has : (xs : List ℕ) (p : ℕ) → top_of xs ≡ None → Has xs p → ⊥
none_has [] p e h = h
none_has (x ∷ xs) p e h = cc

pub down_has : (q : ℕ) (bs : List ℕ) (b : ℕ) → Has (down_to q bs) b → Has bs b
down_has q [] b h = h
down_has q (x ∷ xs) b h = go (leb x q) (down_has q xs b) h
  where
    go : (t : Bool) → (Has (down_to q xs) b → Has xs b) → Has (cond t (x ∷ xs) (down_to q xs)) b → Has (x ∷ xs) b
    go true f h' = h'
    go false f h' = inr (f h')

pub down_keeps : (q : ℕ) (bs : List ℕ) (b : ℕ) → Has bs b → b ≤ q → Has (down_to q bs) b
down_keeps q [] b h l = h
down_keeps q (x ∷ xs) b h l = go (leb x q) (leb-false x q) (λ k. down_keeps q xs b k l) h
  where
    go : (t : Bool) → (t ≡ false → q < x) → (Has xs b → Has (down_to q xs) b) → Has (x ∷ xs) b → Has (cond t (x ∷ xs) (down_to q xs)) b
    go true f r h' = h'
    go false f r (inl e) = absurd (let k : q < x = f refl in omega arith)
    go false f r (inr k) = r k

pub down_descends : (q : ℕ) (bs : List ℕ) → Descends bs → Descends (down_to q bs)
down_descends q [] d = d
down_descends q (x ∷ xs) d = go (leb x q) (down_descends q xs d.1)
  where
    go : (t : Bool) → Descends (down_to q xs) → Descends (cond t (x ∷ xs) (down_to q xs))
    go true r = d
    go false r = r

pub down_at_most : (q : ℕ) (bs : List ℕ) → Descends bs → (b : ℕ) → Has (down_to q bs) b → b ≤ q
down_at_most q [] d b h = absurd h
down_at_most q (x ∷ xs) d b h = go (leb x q) (leb-true x q) (down_at_most q xs d.1 b) h
  where
    go : (t : Bool) → (t ≡ true → x ≤ q) → (Has (down_to q xs) b → b ≤ q) → Has (cond t (x ∷ xs) (down_to q xs)) b → b ≤ q
    go true f r (inl e) = let k : x ≤ q = f refl in omega arith
    go true f r (inr i) = let k : x ≤ q = f refl in let l : b < x = d.0 b i in omega arith
    go false f r i = r i

-- a mark after one was set
pub set_cases : (ms : List Mark) (y z : ℕ) (v w : Mark) → y < length ms → mark_of (set ms y v) z ≡ w → ((z ≡ y) × (w ≡ v)) ⊎ ((z ≡ y → ⊥) × (mark_of ms z ≡ w))
set_cases ms y z v w h e = go (cases_eq z y)
  where
    go : (z ≡ y) ⊎ (z ≡ y → ⊥) → ((z ≡ y) × (w ≡ v)) ⊎ ((z ≡ y → ⊥) × (mark_of ms z ≡ w))
    go (inl i) = inl (i, sym e ∙ ap (λ k. mark_of (set ms y v) k) i ∙ get_or-set_same ms y v New h)
    go (inr n) = inr (n, sym (get_or-set_other ms y z v New n) ∙ e)

-- a number after one was set
pub number_cases : (xs : List ℕ) (y z v : ℕ) → y < length xs → ((z ≡ y) × (get_or (set xs y v) z 0 ≡ v)) ⊎ ((z ≡ y → ⊥) × (get_or (set xs y v) z 0 ≡ get_or xs z 0))
number_cases xs y z v h = go (cases_eq z y)
  where
    go : (z ≡ y) ⊎ (z ≡ y → ⊥) → ((z ≡ y) × (get_or (set xs y v) z 0 ≡ v)) ⊎ ((z ≡ y → ⊥) × (get_or (set xs y v) z 0 ≡ get_or xs z 0))
    go (inl i) = inl (i, ap (λ k. get_or (set xs y v) k 0) i ∙ get_or-set_same xs y v 0 h)
    go (inr n) = inr (n, get_or-set_other xs y z v 0 n)

pub place_one : (p q : ℕ) → OnPath p ≡ OnPath q → p ≡ q
place_one p q e = cc

pub part_one : (p q : ℕ) → Done p ≡ Done q → p ≡ q
part_one p q e = cc

pub not_new_path : (p : ℕ) → New ≡ OnPath p → ⊥
not_new_path p e = cc

pub not_new_done : (p : ℕ) → New ≡ Done p → ⊥
not_new_done p e = cc

pub not_path_done : (p q : ℕ) → OnPath p ≡ Done q → ⊥
not_path_done p q e = cc

-- an edge that is passed leaves one less
pub edges_left-set : (es ks : List ℕ) (i : ℕ) → i < length es → i < length ks → get_or ks i 0 < get_or es i 0 → edges_left es (set ks i (get_or ks i 0 + 1)) + 1 ≡ edges_left es ks
edges_left-set [] ks i h k l = absurd (omega arith)
edges_left-set (e ∷ es) [] i h k l = absurd (omega arith)
edges_left-set (e ∷ es) (n ∷ ns) zero h k l = omega arith
edges_left-set (e ∷ es) (n ∷ ns) (suc i) h k l = omega (arith, edges_left-set es ns i (omega arith) (omega arith) l)
