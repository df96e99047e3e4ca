-- What numbers of components say of needs.
use Rattle.std.proofs.Common.{◌≡◌, ℕ, ◌+◌, ◌<◌, ◌≤◌, ◌⊎◌, ◌↔◌, inl, inr, Bool, true, false, List, length, map, get_or, refl, ap, sym, ◌∙◌, subst, arith, get_or-set_same, get_or-set_other}
use Rattle.std.proofs.Math.ListN.{set}
use Rattle.std.proofs.lemmas.List.{get_or_past, get_or-map, length-map}
use Rattle.std.proofs.lemmas.Bool.{cases_lt}
use Rattle.asn_names_graph.specs.Graphs.{Edges, HasEdge, IsGraph, IsNode, Needs, at_once, further, NeedsItself, NeedsNoCycle, AreOneComponent}
use Rattle.asn_names_graph.specs.declared.mark.Mark.{Mark}
use Rattle.asn_names_graph.specs.declared.mark.Mark.TheVariants.{New, OnPath, Done}
use Rattle.asn_names_graph.specs.inner.State.{State, mark_of}
use Rattle.asn_names_graph.specs.inner.Valid.{AllOut, DoneBy, Leads, here, onward, StandsIn}
use Rattle.asn_names_graph.specs.inner.Numbered.{number_in, Numbered, ReturnsTo, LeadsToFree}

-- an edge begins at a node
pub edge_from : (g : Edges) (x y : ℕ) → HasEdge g x y → IsNode g x
edge_from g x y e = go (cases_lt (x + 1) (length g.starts))
  where
    go : (x + 1 < length g.starts) ⊎ (length g.starts ≤ x + 1) → x + 1 < length g.starts
    go (inl h) = h
    go (inr h) = absurd (let z : get_or g.starts (x + 1) 0 ≡ 0 = get_or_past g.starts (x + 1) 0 h in let b : e.place < get_or g.starts (x + 1) 0 = e.before in omega arith)

-- an edge leads to a node
pub edge_to : (g : Edges) (x y : ℕ) → IsGraph g → HasEdge g x y → IsNode g y
edge_to g x y graph e =
    let w : get_or g.starts (x + 1) 0 ≤ length g.targets = graph.within x (edge_from g x y e) in
    let b : e.place < get_or g.starts (x + 1) 0 = e.before in
    subst (λ z. IsNode g z) e.leads (graph.to_nodes e.place (omega arith))

pub first_step : {g : Edges} {x z : ℕ} → Needs g x z → (y : ℕ) × HasEdge g x y × Leads g y z
first_step {z = z} (at_once e) = (z, e, here)
first_step (further n e) = let f = first_step n in (f.0, f.1, onward f.2 e)

pub needs_of : {g : Edges} {x y z : ℕ} → HasEdge g x y → Leads g y z → Needs g x z
needs_of e here = at_once e
needs_of e (onward l f) = further (needs_of e l) f

pub needs_lead : {g : Edges} {x y : ℕ} → Needs g x y → Leads g x y
needs_lead (at_once e) = onward here e
needs_lead (further n e) = onward (needs_lead n) e

pub needs_last : {g : Edges} {x y z : ℕ} → Leads g x y → HasEdge g y z → Needs g x z
needs_last here e = at_once e
needs_last (onward l f) e = further (needs_last l f) e

pub lead_needs : {g : Edges} {x y : ℕ} → Leads g x y → (x ≡ y) ⊎ Needs g x y
lead_needs here = inl refl
lead_needs (onward l e) = inr (needs_last l e)

-- what a search gives: numbers that fall along edges and are one within a component
module _ (g : Edges) (s : State) (out : AllOut g s) where
  number : ℕ → ℕ
  number x = get_or (map number_in s.marks) x 0

  marked : (x : ℕ) → IsNode g x → (c : ℕ) × (mark_of s.marks x ≡ Done c)
  marked x n = go (mark_of s.marks x) refl
    where
      go : (m : Mark) → mark_of s.marks x ≡ m → (c : ℕ) × (mark_of s.marks x ≡ Done c)
      go New e = absurd (out.met x n e)
      go (OnPath p) e = absurd (out.off_path x p e)
      go (Done c) e = (c, e)

  number_is : (x c : ℕ) → IsNode g x → mark_of s.marks x ≡ Done c → get_or (map number_in s.marks) x 0 ≡ c
  number_is x c n e = let l : length s.marks ≡ length g.starts = out.marks_length in get_or-map number_in s.marks x New 0 (omega arith) ∙ ap number_in e

  falls_from : (x y c : ℕ) → IsNode g x → IsNode g y → mark_of s.marks x ≡ Done c → DoneBy s.marks y c → get_or (map number_in s.marks) y 0 ≤ get_or (map number_in s.marks) x 0
  falls_from x y c n m e d =
      let i : get_or (map number_in s.marks) x 0 ≡ c = number_is x c n e in
      let j : get_or (map number_in s.marks) y 0 ≡ d.part = number_is y d.part m d.mark in
      let k : d.part ≤ c = d.bounded in
      omega arith

  pub numbered : IsGraph g → (numbers : List ℕ) → numbers ≡ map number_in s.marks → Numbered g numbers s.order
  numbered graph numbers is = subst (λ ns. Numbered g ns s.order) (sym is) (record {
    length_is = length-map s.marks number_in ∙ out.marks_length;
    falls = λ x y e. falls_of x y e (marked x (edge_from g x y e));
    one = λ x y n m e. one_of x y n m e (marked x n) (marked y m);
    nodes = out.sorted.order_nodes;
    out = λ x n. out.sorted.out x (marked x n).0 (marked x n).1;
    rises = λ i j h l. rises_of i j h l (marked (get_or s.order i 0) (out.sorted.order_nodes i (omega arith))) (marked (get_or s.order j 0) (out.sorted.order_nodes j l));
    once = out.sorted.order_once;
  })
    where
      falls_of : (x y : ℕ) → HasEdge g x y → (c : ℕ) × (mark_of s.marks x ≡ Done c) → get_or (map number_in s.marks) y 0 ≤ get_or (map number_in s.marks) x 0
      falls_of x y e (c, f) = falls_from x y c (edge_from g x y e) (edge_to g x y graph e) f (out.sorted.edges x y c f e)

      one_of : (x y : ℕ) → IsNode g x → IsNode g y → get_or (map number_in s.marks) x 0 ≡ get_or (map number_in s.marks) y 0 → (c : ℕ) × (mark_of s.marks x ≡ Done c) → (c : ℕ) × (mark_of s.marks y ≡ Done c) → Leads g x y
      one_of x y n m e (c, f) (d, h) = let i : d ≡ c = sym (number_is y d m h) ∙ sym e ∙ number_is x c n f in out.sorted.one_part x y c f (h ∙ ap Done i)

      rises_of : (i j : ℕ) → i ≤ j → j < length s.order → (c : ℕ) × (mark_of s.marks (get_or s.order i 0) ≡ Done c) → (c : ℕ) × (mark_of s.marks (get_or s.order j 0) ≡ Done c) → get_or (map number_in s.marks) (get_or s.order i 0) 0 ≤ get_or (map number_in s.marks) (get_or s.order j 0) 0
      rises_of i j h l (c, f) (d, k) =
          let m : get_or (map number_in s.marks) (get_or s.order i 0) 0 ≡ c = number_is (get_or s.order i 0) c (out.sorted.order_nodes i (omega arith)) f in
          let n : get_or (map number_in s.marks) (get_or s.order j 0) 0 ≡ d = number_is (get_or s.order j 0) d (out.sorted.order_nodes j l) k in
          let o : c ≤ d = out.sorted.order_rises i j c d h l f k in
          omega arith

module _ (g : Edges) (numbers order : List ℕ) (graph : IsGraph g) (n : Numbered g numbers order) where
  leads_fall : {x y : ℕ} → Leads g x y → get_or numbers y 0 ≤ get_or numbers x 0
  leads_fall here = omega arith
  leads_fall {x} (onward {y = y} {z = z} l e) = let i : get_or numbers y 0 ≤ get_or numbers x 0 = leads_fall l in let j : get_or numbers z 0 ≤ get_or numbers y 0 = n.falls y z e in omega arith

  -- a node needs itself exactly where an edge of it stays in its component
  pub itself_iff : (x : ℕ) → ReturnsTo g numbers x ↔ NeedsItself g x
  itself_iff x = (come, go)
    where
      come : ReturnsTo g numbers x → NeedsItself g x
      come r = needs_of r.edge (n.one r.target x (edge_to g x r.target graph r.edge) (edge_from g x r.target r.edge) r.same)

      stay : (y : ℕ) × HasEdge g x y × Leads g y x → ReturnsTo g numbers x
      stay (y, e, l) = record { target = y; edge = e; same = (let i : get_or numbers y 0 ≤ get_or numbers x 0 = n.falls x y e in let j : get_or numbers x 0 ≤ get_or numbers y 0 = leads_fall l in omega arith) }

      go : NeedsItself g x → ReturnsTo g numbers x
      go m = stay (first_step m)

  -- numbers are one exactly where nodes are one component
  pub one_iff : (x y : ℕ) → IsNode g x → IsNode g y → (get_or numbers x 0 ≡ get_or numbers y 0) ↔ AreOneComponent g x y
  one_iff x y a b = (come, go)
    where
      join : (x ≡ y) ⊎ Needs g x y → (y ≡ x) ⊎ Needs g y x → AreOneComponent g x y
      join (inl e) m = inl e
      join (inr k) (inl e) = inl (sym e)
      join (inr k) (inr l) = inr (k, l)

      come : get_or numbers x 0 ≡ get_or numbers y 0 → AreOneComponent g x y
      come e = join (lead_needs (n.one x y a b e)) (lead_needs (n.one y x b a (sym e)))

      go : AreOneComponent g x y → get_or numbers x 0 ≡ get_or numbers y 0
      go (inl e) = ap (λ k. get_or numbers k 0) e
      go (inr m) = let i : get_or numbers y 0 ≤ get_or numbers x 0 = leads_fall (needs_lead m.0) in let j : get_or numbers x 0 ≤ get_or numbers y 0 = leads_fall (needs_lead m.1) in omega arith

  -- a node is free exactly where its edges lead to free nodes of other components
  pub free_iff : (x : ℕ) → NeedsNoCycle g x ↔ ((y : ℕ) → HasEdge g x y → (get_or numbers y 0 ≡ get_or numbers x 0 → ⊥) × NeedsNoCycle g y)
  free_iff x = (come, go)
    where
      come : NeedsNoCycle g x → (y : ℕ) → HasEdge g x y → (get_or numbers y 0 ≡ get_or numbers x 0 → ⊥) × NeedsNoCycle g y
      come f y e = (
        (λ i. f.itself ((itself_iff x).0 (record { target = y; edge = e; same = i }))),
        record { itself = f.others y (at_once e); others = λ z m. f.others z (needs_of e (needs_lead m)) },
      )

      go : ((y : ℕ) → HasEdge g x y → (get_or numbers y 0 ≡ get_or numbers x 0 → ⊥) × NeedsNoCycle g y) → NeedsNoCycle g x
      go each = record { itself = λ m. apart ((itself_iff x).1 m); others = λ z m. other z (first_step m) }
        where
          apart : ReturnsTo g numbers x → ⊥
          apart r = (each r.target r.edge).0 r.same

          last : (y z : ℕ) → NeedsNoCycle g y → (y ≡ z) ⊎ Needs g y z → NeedsItself g z → ⊥
          last y z f (inl e) = subst (λ w. NeedsItself g w → ⊥) e f.itself
          last y z f (inr m) = f.others z m

          other : (z : ℕ) → (y : ℕ) × HasEdge g x y × Leads g y z → NeedsItself g z → ⊥
          other z (y, e, l) = last y z (each y e).1 (lead_needs l)

  -- where numbers differ, an edge leads to a node that came out before
  pub before : (i y : ℕ) → i < length order → HasEdge g (get_or order i 0) y → (get_or numbers y 0 ≡ get_or numbers (get_or order i 0) 0 → ⊥) → (j : ℕ) × (j < i) × (get_or order j 0 ≡ y)
  before i y h e apart =
      let o : StandsIn order y = n.out y (edge_to g (get_or order i 0) y graph e) in
      go o (cases_lt o.place i)
    where
      go : (o : StandsIn order y) → (o.place < i) ⊎ (i ≤ o.place) → (j : ℕ) × (j < i) × (get_or order j 0 ≡ y)
      go o (inl l) = (o.place, l, o.stands)
      go o (inr l) = absurd (apart (
          let a : get_or numbers (get_or order i 0) 0 ≤ get_or numbers (get_or order o.place 0) 0 = n.rises i o.place l o.within in
          let b : get_or numbers (get_or order o.place 0) 0 ≡ get_or numbers y 0 = ap (λ k. get_or numbers k 0) o.stands in
          let c : get_or numbers y 0 ≤ get_or numbers (get_or order i 0) 0 = n.falls (get_or order i 0) y e in
          omega arith))

  -- the table of free nodes goes one node further
  pub free_more : (table : List Bool) (i : ℕ) (b : Bool) → length table ≡ length g.starts → i < length order →
      ((j : ℕ) → j < i → ((get_or table (get_or order j 0) false ≡ true) ↔ NeedsNoCycle g (get_or order j 0))) →
      ((b ≡ true) ↔ LeadsToFree g numbers table (get_or order i 0)) →
      (j : ℕ) → j < i + 1 → ((get_or (set table (get_or order i 0) b) (get_or order j 0) false ≡ true) ↔ NeedsNoCycle g (get_or order j 0))
  free_more table i b long h told now j l = go (cases_lt j i)
    where
      node : IsNode g (get_or order i 0)
      node = n.nodes i h

      find : (y : ℕ) → (j' : ℕ) × (j' < i) × (get_or order j' 0 ≡ y) → (get_or table y false ≡ true) ↔ NeedsNoCycle g y
      find y (j', k, e) = subst (λ z. (get_or table z false ≡ true) ↔ NeedsNoCycle g z) e (told j' k)

      up : LeadsToFree g numbers table (get_or order i 0) → NeedsNoCycle g (get_or order i 0)
      up f = (free_iff (get_or order i 0)).1 (λ y e. (f.other y e, (find y (before i y h e (f.other y e))).0 (f.free_too y e)))

      down : NeedsNoCycle g (get_or order i 0) → LeadsToFree g numbers table (get_or order i 0)
      down f = record {
        other = λ y e. ((free_iff (get_or order i 0)).0 f y e).0;
        free_too = λ y e. (find y (before i y h e ((free_iff (get_or order i 0)).0 f y e).0)).1 ((free_iff (get_or order i 0)).0 f y e).1;
      }

      same : get_or (set table (get_or order i 0) b) (get_or order i 0) false ≡ b
      same = get_or-set_same table (get_or order i 0) b false (omega arith)

      here_iff : (get_or (set table (get_or order i 0) b) (get_or order i 0) false ≡ true) ↔ NeedsNoCycle g (get_or order i 0)
      here_iff = ((λ e. up (now.0 (sym same ∙ e))), (λ f. same ∙ now.1 (down f)))

      go : (j < i) ⊎ (i ≤ j) → (get_or (set table (get_or order i 0) b) (get_or order j 0) false ≡ true) ↔ NeedsNoCycle g (get_or order j 0)
      go (inl k) = subst (λ x. (x ≡ true) ↔ NeedsNoCycle g (get_or order j 0)) (sym (get_or-set_other table (get_or order i 0) (get_or order j 0) b false (n.once j i k h))) (told j k)
      go (inr k) = let e : i ≡ j = omega arith in subst (λ k'. (get_or (set table (get_or order i 0) b) (get_or order k' 0) false ≡ true) ↔ NeedsNoCycle g (get_or order k' 0)) e here_iff
