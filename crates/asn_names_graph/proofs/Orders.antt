-- Lists of numbers by their places, and what a filter keeps of an order.
use Rattle.std.proofs.Common.{◌≡◌, ℕ, zero, suc, ◌<◌, ◌↔◌, inl, inr, Bool, true, false, cond, List, [], ◌∷◌, length, get_or, refl, ap, sym, ◌∙◌, subst, arith}
use Rattle.std.specs.Prelude.{filter}
use Rattle.asn_names_graph.specs.Graphs.{Edges, HasEdge, IsGraph, IsNode, NeedsNoCycle, Has, HasEachOnce, StandsBefore, IsOrder, IsOrderOfFree}
use Rattle.asn_names_graph.specs.inner.Valid.{StandsIn}
use Rattle.asn_names_graph.specs.inner.Numbered.{Numbered}
use Rattle.asn_names_graph.proofs.Needs.{before, edge_from, edge_to, free_iff, one_iff}

pub has_at : (xs : List ℕ) (i : ℕ) → i < length xs → Has xs (get_or xs i 0)
has_at [] i h = absurd (omega arith)
has_at (x ∷ xs) zero h = inl refl
has_at (x ∷ xs) (suc i) h = inr (has_at xs i (omega arith))

pub has_place : (xs : List ℕ) (y : ℕ) → Has xs y → (i : ℕ) × (i < length xs) × (get_or xs i 0 ≡ y)
has_place [] y h = absurd h
has_place (x ∷ xs) y (inl e) = (0, omega arith, sym e)
has_place (x ∷ xs) y (inr h) = let p = has_place xs y h in let l : p.0 < length xs = p.1 in (suc p.0, omega arith, p.2)

pub has_of : (xs : List ℕ) (y : ℕ) → StandsIn xs y → Has xs y
has_of xs y s = subst (λ z. Has xs z) s.stands (has_at xs s.place s.within)

before_at : (xs : List ℕ) (i j : ℕ) → i < j → j < length xs → StandsBefore xs (get_or xs i 0) (get_or xs j 0)
before_at [] i j h l = absurd (omega arith)
before_at (x ∷ xs) zero zero h l = absurd (omega arith)
before_at (x ∷ xs) zero (suc j) h l = inl (refl, has_at xs j (omega arith))
before_at (x ∷ xs) (suc i) zero h l = absurd (omega arith)
before_at (x ∷ xs) (suc i) (suc j) h l = inr (before_at xs i j (omega arith) (omega arith))

once_at : (xs : List ℕ) → ((i j : ℕ) → i < j → j < length xs → get_or xs i 0 ≡ get_or xs j 0 → ⊥) → HasEachOnce xs
once_at [] f = tt
once_at (x ∷ xs) f = (
  (λ h. let p = has_place xs x h in let l : p.0 < length xs = p.1 in f 0 (suc p.0) (omega arith) (omega arith) (sym p.2)),
  once_at xs (λ i j h l e. f (suc i) (suc j) (omega arith) (omega arith) e),
)

has_filter : (p : ℕ → Bool) (xs : List ℕ) (y : ℕ) → Has (filter p xs) y → Has xs y × (p y ≡ true)
has_filter p [] y h = absurd h
has_filter p (x ∷ xs) y h = go (p x) refl (has_filter p xs y) h
  where
    go : (b : Bool) → p x ≡ b → (Has (filter p xs) y → Has xs y × (p y ≡ true)) → Has (cond b (x ∷ filter p xs) (filter p xs)) y → Has (x ∷ xs) y × (p y ≡ true)
    go true e f (inl i) = (inl i, ap p i ∙ e)
    go true e f (inr k) = (inr (f k).0, (f k).1)
    go false e f k = (inr (f k).0, (f k).1)

filter_has : (p : ℕ → Bool) (xs : List ℕ) (y : ℕ) → Has xs y → p y ≡ true → Has (filter p xs) y
filter_has p [] y h t = h
filter_has p (x ∷ xs) y h t = go (p x) refl (λ k. filter_has p xs y k t) h
  where
    go : (b : Bool) → p x ≡ b → (Has xs y → Has (filter p xs) y) → Has (x ∷ xs) y → Has (cond b (x ∷ filter p xs) (filter p xs)) y
    go true e f (inl i) = inl i
    go true e f (inr k) = inr (f k)
    go false e f (inl i) = absurd (let c : false ≡ true = sym e ∙ ap p (sym i) ∙ t in cc)
    go false e f (inr k) = f k

filter_once : (p : ℕ → Bool) (xs : List ℕ) → HasEachOnce xs → HasEachOnce (filter p xs)
filter_once p [] o = o
filter_once p (x ∷ xs) o = go (p x) (filter_once p xs o.1)
  where
    go : (b : Bool) → HasEachOnce (filter p xs) → HasEachOnce (cond b (x ∷ filter p xs) (filter p xs))
    go true r = ((λ h. o.0 (has_filter p xs x h).0), r)
    go false r = r

filter_before : (p : ℕ → Bool) (xs : List ℕ) (y z : ℕ) → StandsBefore xs y z → p y ≡ true → p z ≡ true → StandsBefore (filter p xs) y z
filter_before p [] y z h a b = h
filter_before p (x ∷ xs) y z h a b = go (p x) refl (λ k. filter_before p xs y z k a b) h
  where
    go : (t : Bool) → p x ≡ t → (StandsBefore xs y z → StandsBefore (filter p xs) y z) → StandsBefore (x ∷ xs) y z → StandsBefore (cond t (x ∷ filter p xs) (filter p xs)) y z
    go true e f (inl i) = inl (i.0, filter_has p xs z i.1 b)
    go true e f (inr k) = inr (f k)
    go false e f (inl i) = absurd (let c : false ≡ true = sym e ∙ ap p (sym i.0) ∙ a in cc)
    go false e f (inr k) = f k

module _ (g : Edges) (numbers order : List ℕ) (graph : IsGraph g) (n : Numbered g numbers order) where
  -- an edge to another component leads to a node that stands before
  edge_before : (x y : ℕ) → HasEdge g x y → (get_or numbers y 0 ≡ get_or numbers x 0 → ⊥) → StandsBefore order y x
  edge_before x y e apart = go (n.out x (edge_from g x y e))
    where
      go : StandsIn order x → StandsBefore order y x
      go o = last (before g numbers order graph n o.place y o.within (subst (λ z. HasEdge g z y) (sym o.stands) e) (λ i. apart (i ∙ ap (λ k. get_or numbers k 0) o.stands)))
        where
          last : (j : ℕ) × (j < o.place) × (get_or order j 0 ≡ y) → StandsBefore order y x
          last (j, l, f) = subst (λ z. StandsBefore order z x) f (subst (λ z. StandsBefore order (get_or order j 0) z) o.stands (before_at order j o.place l o.within))

  node_of : (x : ℕ) → Has order x → IsNode g x
  node_of x h = let p = has_place order x h in subst (λ z. IsNode g z) p.2 (n.nodes p.0 p.1)

  pub is_order : IsOrder g order
  is_order = record {
    nodes = λ x. (node_of x, (λ k. has_of order x (n.out x k)));
    once = once_at order n.once;
    needs_first = λ x y e apart. edge_before x y e (λ i. apart ((one_iff g numbers order graph n x y (edge_from g x y e) (edge_to g x y graph e)).0 (sym i)));
  }

  pub is_order_of_free : (p : ℕ → Bool) (free : List ℕ) → ((i : ℕ) → i < length order → ((p (get_or order i 0) ≡ true) ↔ NeedsNoCycle g (get_or order i 0))) → free ≡ filter p order → IsOrderOfFree g free
  is_order_of_free p free told is = subst (λ l. IsOrderOfFree g l) (sym is) (record {
    nodes = λ x. (come x, go x);
    once = filter_once p order (once_at order n.once);
    needs_first = λ x y e h. first x y e (come x h);
  })
    where
      told_of : (x : ℕ) → Has order x → (p x ≡ true) ↔ NeedsNoCycle g x
      told_of x h = let o = has_place order x h in subst (λ z. (p z ≡ true) ↔ NeedsNoCycle g z) o.2 (told o.0 o.1)

      come : (x : ℕ) → Has (filter p order) x → IsNode g x × NeedsNoCycle g x
      come x h = let f = has_filter p order x h in (node_of x f.0, (told_of x f.0).0 f.1)

      go : (x : ℕ) → IsNode g x × NeedsNoCycle g x → Has (filter p order) x
      go x k = let h : Has order x = has_of order x (n.out x k.0) in filter_has p order x h ((told_of x h).1 k.1)

      first : (x y : ℕ) → HasEdge g x y → IsNode g x × NeedsNoCycle g x → StandsBefore (filter p order) y x
      first x y e k =
          let f = (free_iff g numbers order graph n x).0 k.1 y e in
          filter_before p order y x (edge_before x y e f.0)
          ((told_of y (has_of order y (n.out y (edge_to g x y graph e)))).1 f.1)
          ((told_of x (has_of order x (n.out x k.0))).1 k.1)
