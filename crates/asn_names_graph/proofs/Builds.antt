-- A graph that is written down: a node more, an edge more, and the end.
use Rattle.std.proofs.Common.{◌≡◌, ℕ, zero, suc, ◌+◌, ◌-◌, ◌<◌, ◌≤◌, ◌⊎◌, ◌↔◌, inl, inr, Option, Some, None, List, [], ◌∷◌, ◌++◌, length, get_or, refl, ap, sym, ◌∙◌, subst, arith, get_or-set_same, get_or-set_other, length-append}
use Rattle.std.specs.Prelude.{IfNone}
use Rattle.std.proofs.Math.ListN.{set, get_or-append}
use Rattle.std.proofs.Math.Seq.{get_or-append_seam}
use Rattle.std.proofs.lemmas.List.{length-set}
use Rattle.std.proofs.lemmas.Bool.{cases_lt}
use Rattle.asn_names_graph.specs.Graphs.{Edges, edges_of, HasEdge, IsGraph, IsNode}
use Rattle.asn_names_graph.specs.inner.Starts.{IsOpen}
use Rattle.asn_names_graph.proofs.Needs.{edge_from}

module _ (starts targets : List ℕ) (open_so : IsOpen starts targets) where
  some_start : 0 < length starts
  some_start = open_so.within.some_start

  last_is : (i : ℕ) → i + 1 ≡ length starts → get_or starts i 0 ≡ length targets
  last_is i e = let l : i ≡ length starts - 1 = omega arith in ap (λ k. get_or starts k 0) l ∙ open_so.last

  up_to : (x : ℕ) → x + 1 < length starts → get_or starts (x + 1) 0 ≤ length targets
  up_to x h = open_so.within.within x h

  from_up_to : (x : ℕ) → x < length starts → get_or starts x 0 ≤ length targets
  from_up_to zero h = let e : get_or starts 0 0 ≡ 0 = open_so.first in omega arith
  from_up_to (suc x) h = let e : x + 1 ≡ suc x = omega arith in subst (λ k. get_or starts k 0 ≤ length targets) e (up_to x (omega arith))

  node_long : length (starts ++ length targets ∷ []) ≡ length starts + 1
  node_long = length-append starts (length targets ∷ [])

  node_old : (x : ℕ) → x < length starts → get_or (starts ++ length targets ∷ []) x 0 ≡ get_or starts x 0
  node_old x h = get_or-append starts (length targets ∷ []) 0 x h

  node_new : (x : ℕ) → x ≡ length starts → get_or (starts ++ length targets ∷ []) x 0 ≡ length targets
  node_new x e = ap (λ k. get_or (starts ++ length targets ∷ []) k 0) e ∙ get_or-append_seam starts (length targets) [] 0

  node_edges : (x y : ℕ) → HasEdge (edges_of (starts ++ length targets ∷ []) targets) x y ↔ HasEdge (edges_of starts targets) x y
  node_edges x y = (come, go)
    where
      come : HasEdge (edges_of (starts ++ length targets ∷ []) targets) x y → HasEdge (edges_of starts targets) x y
      come e = side (cases_lt (x + 1) (length starts)) (edge_from (edges_of (starts ++ length targets ∷ []) targets) x y e) e.from e.before
        where
          side : (x + 1 < length starts) ⊎ (length starts ≤ x + 1) → x + 1 < length (starts ++ length targets ∷ []) → get_or (starts ++ length targets ∷ []) x 0 ≤ e.place → e.place < get_or (starts ++ length targets ∷ []) (x + 1) 0 → HasEdge (edges_of starts targets) x y
          side (inl h) n f b = record {
            place = e.place;
            from = (let i : get_or (starts ++ length targets ∷ []) x 0 ≡ get_or starts x 0 = node_old x (omega arith) in omega arith);
            before = (let i : get_or (starts ++ length targets ∷ []) (x + 1) 0 ≡ get_or starts (x + 1) 0 = node_old (x + 1) h in omega arith);
            leads = e.leads;
          }
          side (inr h) n f b = absurd (
              let l : length (starts ++ length targets ∷ []) ≡ length starts + 1 = node_long in
              let k : x + 1 ≡ length starts = omega arith in
              let i : get_or (starts ++ length targets ∷ []) x 0 ≡ get_or starts x 0 = node_old x (omega arith) in
              let j : get_or (starts ++ length targets ∷ []) (x + 1) 0 ≡ length targets = node_new (x + 1) k in
              let m : get_or starts x 0 ≡ length targets = last_is x k in
              omega arith)

      go : HasEdge (edges_of starts targets) x y → HasEdge (edges_of (starts ++ length targets ∷ []) targets) x y
      go e =
          let n : x + 1 < length starts = edge_from (edges_of starts targets) x y e in
          let f : get_or starts x 0 ≤ e.place = e.from in
          let b : e.place < get_or starts (x + 1) 0 = e.before in
          record {
            place = e.place;
            from = (let i : get_or (starts ++ length targets ∷ []) x 0 ≡ get_or starts x 0 = node_old x (omega arith) in omega arith);
            before = (let i : get_or (starts ++ length targets ∷ []) (x + 1) 0 ≡ get_or starts (x + 1) 0 = node_old (x + 1) n in omega arith);
            leads = e.leads;
          }

  pub node_opens : IsOpen (starts ++ length targets ∷ []) targets
  node_opens = record {
    within = record {
      some_start = (let l : length (starts ++ length targets ∷ []) ≡ length starts + 1 = node_long in omega arith);
      never_falls = λ x h. falls x h (cases_lt (x + 1) (length starts));
      within = λ x h. end x h (cases_lt (x + 1) (length starts));
    };
    first = node_old 0 some_start ∙ open_so.first;
    last = node_new (length (starts ++ length targets ∷ []) - 1) (let l : length (starts ++ length targets ∷ []) ≡ length starts + 1 = node_long in omega arith);
  }
    where
      falls : (x : ℕ) → x + 1 < length (starts ++ length targets ∷ []) → (x + 1 < length starts) ⊎ (length starts ≤ x + 1) → get_or (starts ++ length targets ∷ []) x 0 ≤ get_or (starts ++ length targets ∷ []) (x + 1) 0
      falls x h (inl l) =
          let i : get_or (starts ++ length targets ∷ []) x 0 ≡ get_or starts x 0 = node_old x (omega arith) in
          let j : get_or (starts ++ length targets ∷ []) (x + 1) 0 ≡ get_or starts (x + 1) 0 = node_old (x + 1) l in
          let k : get_or starts x 0 ≤ get_or starts (x + 1) 0 = open_so.within.never_falls x l in
          omega arith
      falls x h (inr l) =
          let n : length (starts ++ length targets ∷ []) ≡ length starts + 1 = node_long in
          let i : get_or (starts ++ length targets ∷ []) x 0 ≡ get_or starts x 0 = node_old x (omega arith) in
          let j : get_or (starts ++ length targets ∷ []) (x + 1) 0 ≡ length targets = node_new (x + 1) (omega arith) in
          let k : get_or starts x 0 ≤ length targets = from_up_to x (omega arith) in
          omega arith

      end : (x : ℕ) → x + 1 < length (starts ++ length targets ∷ []) → (x + 1 < length starts) ⊎ (length starts ≤ x + 1) → get_or (starts ++ length targets ∷ []) (x + 1) 0 ≤ length targets
      end x h (inl l) = let j : get_or (starts ++ length targets ∷ []) (x + 1) 0 ≡ get_or starts (x + 1) 0 = node_old (x + 1) l in let k : get_or starts (x + 1) 0 ≤ length targets = up_to x l in omega arith
      end x h (inr l) = let n : length (starts ++ length targets ∷ []) ≡ length starts + 1 = node_long in let j : get_or (starts ++ length targets ∷ []) (x + 1) 0 ≡ length targets = node_new (x + 1) (omega arith) in omega arith

  module _ (t : ℕ) (some_node : 1 < length starts) where
    more : length (targets ++ t ∷ []) ≡ length targets + 1
    more = length-append targets (t ∷ [])

    edge_long : length (set starts (length starts - 1) (length targets + 1)) ≡ length starts
    edge_long = length-set starts (length starts - 1) (length targets + 1)

    edge_last : (x : ℕ) → x + 1 ≡ length starts → get_or (set starts (length starts - 1) (length targets + 1)) x 0 ≡ length targets + 1
    edge_last x e = let l : x ≡ length starts - 1 = omega arith in ap (λ k. get_or (set starts (length starts - 1) (length targets + 1)) k 0) l ∙ get_or-set_same starts (length starts - 1) (length targets + 1) 0 (omega arith)

    edge_old : (x : ℕ) → x + 1 < length starts → get_or (set starts (length starts - 1) (length targets + 1)) x 0 ≡ get_or starts x 0
    edge_old x h = get_or-set_other starts (length starts - 1) x (length targets + 1) 0 (λ e. omega arith)

    target_old : (k : ℕ) → k < length targets → get_or (targets ++ t ∷ []) k 0 ≡ get_or targets k 0
    target_old k h = get_or-append targets (t ∷ []) 0 k h

    target_new : (k : ℕ) → k ≡ length targets → get_or (targets ++ t ∷ []) k 0 ≡ t
    target_new k e = ap (λ i. get_or (targets ++ t ∷ []) i 0) e ∙ get_or-append_seam targets t [] 0

    edge_edges : (x y : ℕ) → HasEdge (edges_of (set starts (length starts - 1) (length targets + 1)) (targets ++ t ∷ [])) x y ↔ (HasEdge (edges_of starts targets) x y ⊎ ((x + 2 ≡ length starts) × (y ≡ t)))
    edge_edges x y = (come, go)
      where
        come : HasEdge (edges_of (set starts (length starts - 1) (length targets + 1)) (targets ++ t ∷ [])) x y → HasEdge (edges_of starts targets) x y ⊎ ((x + 2 ≡ length starts) × (y ≡ t))
        come e = side (edge_from (edges_of (set starts (length starts - 1) (length targets + 1)) (targets ++ t ∷ [])) x y e) e.from e.before (cases_lt (x + 2) (length starts)) (cases_lt e.place (length targets))
          where
            old : e.place < length targets → get_or targets e.place 0 ≡ y
            old h = sym (target_old e.place h) ∙ e.leads

            side : x + 1 < length (set starts (length starts - 1) (length targets + 1)) → get_or (set starts (length starts - 1) (length targets + 1)) x 0 ≤ e.place → e.place < get_or (set starts (length starts - 1) (length targets + 1)) (x + 1) 0 → (x + 2 < length starts) ⊎ (length starts ≤ x + 2) → (e.place < length targets) ⊎ (length targets ≤ e.place) → HasEdge (edges_of starts targets) x y ⊎ ((x + 2 ≡ length starts) × (y ≡ t))
            side n f b (inl h) c =
                let i : get_or (set starts (length starts - 1) (length targets + 1)) x 0 ≡ get_or starts x 0 = edge_old x (omega arith) in
                let j : get_or (set starts (length starts - 1) (length targets + 1)) (x + 1) 0 ≡ get_or starts (x + 1) 0 = edge_old (x + 1) (omega arith) in
                let k : get_or starts (x + 1) 0 ≤ length targets = up_to x (omega arith) in
                inl (record { place = e.place; from = omega arith; before = omega arith; leads = old (omega arith) })
            side n f b (inr h) (inl c) =
                let l : length (set starts (length starts - 1) (length targets + 1)) ≡ length starts = edge_long in
                let i : get_or (set starts (length starts - 1) (length targets + 1)) x 0 ≡ get_or starts x 0 = edge_old x (omega arith) in
                let j : get_or starts (x + 1) 0 ≡ length targets = last_is (x + 1) (omega arith) in
                inl (record { place = e.place; from = omega arith; before = omega arith; leads = old c })
            side n f b (inr h) (inr c) =
                let l : length (set starts (length starts - 1) (length targets + 1)) ≡ length starts = edge_long in
                let j : get_or (set starts (length starts - 1) (length targets + 1)) (x + 1) 0 ≡ length targets + 1 = edge_last (x + 1) (omega arith) in
                inr (omega arith, sym e.leads ∙ target_new e.place (omega arith))

        go : HasEdge (edges_of starts targets) x y ⊎ ((x + 2 ≡ length starts) × (y ≡ t)) → HasEdge (edges_of (set starts (length starts - 1) (length targets + 1)) (targets ++ t ∷ [])) x y
        go (inl e) = side (edge_from (edges_of starts targets) x y e) e.from e.before (cases_lt (x + 2) (length starts))
          where
            side : x + 1 < length starts → get_or starts x 0 ≤ e.place → e.place < get_or starts (x + 1) 0 → (x + 2 < length starts) ⊎ (length starts ≤ x + 2) → HasEdge (edges_of (set starts (length starts - 1) (length targets + 1)) (targets ++ t ∷ [])) x y
            side n f b (inl h) =
                let i : get_or (set starts (length starts - 1) (length targets + 1)) x 0 ≡ get_or starts x 0 = edge_old x n in
                let j : get_or (set starts (length starts - 1) (length targets + 1)) (x + 1) 0 ≡ get_or starts (x + 1) 0 = edge_old (x + 1) (omega arith) in
                let k : get_or starts (x + 1) 0 ≤ length targets = up_to x n in
                record { place = e.place; from = omega arith; before = omega arith; leads = target_old e.place (omega arith) ∙ e.leads }
            side n f b (inr h) =
                let i : get_or (set starts (length starts - 1) (length targets + 1)) x 0 ≡ get_or starts x 0 = edge_old x n in
                let j : get_or (set starts (length starts - 1) (length targets + 1)) (x + 1) 0 ≡ length targets + 1 = edge_last (x + 1) (omega arith) in
                let k : get_or starts (x + 1) 0 ≤ length targets = up_to x n in
                record { place = e.place; from = omega arith; before = omega arith; leads = target_old e.place (omega arith) ∙ e.leads }
        go (inr e) =
            let l : x + 2 ≡ length starts = e.0 in
            let i : get_or (set starts (length starts - 1) (length targets + 1)) x 0 ≡ get_or starts x 0 = edge_old x (omega arith) in
            let j : get_or (set starts (length starts - 1) (length targets + 1)) (x + 1) 0 ≡ length targets + 1 = edge_last (x + 1) (omega arith) in
            let k : get_or starts x 0 ≤ length targets = from_up_to x (omega arith) in
            record { place = length targets; from = omega arith; before = omega arith; leads = target_new (length targets) refl ∙ sym e.1 }

    edge_opens : IsOpen (set starts (length starts - 1) (length targets + 1)) (targets ++ t ∷ [])
    edge_opens = record {
      within = record {
        some_start = (let l : length (set starts (length starts - 1) (length targets + 1)) ≡ length starts = edge_long in omega arith);
        never_falls = λ x h. falls x h (cases_lt (x + 2) (length starts));
        within = λ x h. end x h (cases_lt (x + 2) (length starts));
      };
      first = edge_old 0 (omega arith) ∙ open_so.first;
      last = edge_last (length (set starts (length starts - 1) (length targets + 1)) - 1) (let l : length (set starts (length starts - 1) (length targets + 1)) ≡ length starts = edge_long in omega arith) ∙ sym more;
    }
      where
        falls : (x : ℕ) → x + 1 < length (set starts (length starts - 1) (length targets + 1)) → (x + 2 < length starts) ⊎ (length starts ≤ x + 2) → get_or (set starts (length starts - 1) (length targets + 1)) x 0 ≤ get_or (set starts (length starts - 1) (length targets + 1)) (x + 1) 0
        falls x h (inl k) =
            let i : get_or (set starts (length starts - 1) (length targets + 1)) x 0 ≡ get_or starts x 0 = edge_old x (omega arith) in
            let j : get_or (set starts (length starts - 1) (length targets + 1)) (x + 1) 0 ≡ get_or starts (x + 1) 0 = edge_old (x + 1) (omega arith) in
            let m : get_or starts x 0 ≤ get_or starts (x + 1) 0 = open_so.within.never_falls x (omega arith) in
            omega arith
        falls x h (inr k) =
            let l : length (set starts (length starts - 1) (length targets + 1)) ≡ length starts = edge_long in
            let i : get_or (set starts (length starts - 1) (length targets + 1)) x 0 ≡ get_or starts x 0 = edge_old x (omega arith) in
            let j : get_or (set starts (length starts - 1) (length targets + 1)) (x + 1) 0 ≡ length targets + 1 = edge_last (x + 1) (omega arith) in
            let m : get_or starts x 0 ≤ length targets = from_up_to x (omega arith) in
            omega arith

        end : (x : ℕ) → x + 1 < length (set starts (length starts - 1) (length targets + 1)) → (x + 2 < length starts) ⊎ (length starts ≤ x + 2) → get_or (set starts (length starts - 1) (length targets + 1)) (x + 1) 0 ≤ length (targets ++ t ∷ [])
        end x h (inl k) =
            let m : length (targets ++ t ∷ []) ≡ length targets + 1 = more in
            let j : get_or (set starts (length starts - 1) (length targets + 1)) (x + 1) 0 ≡ get_or starts (x + 1) 0 = edge_old (x + 1) (omega arith) in
            let n : get_or starts (x + 1) 0 ≤ length targets = up_to x (omega arith) in
            omega arith
        end x h (inr k) =
            let l : length (set starts (length starts - 1) (length targets + 1)) ≡ length starts = edge_long in
            let m : length (targets ++ t ∷ []) ≡ length targets + 1 = more in
            let j : get_or (set starts (length starts - 1) (length targets + 1)) (x + 1) 0 ≡ length targets + 1 = edge_last (x + 1) (omega arith) in
            omega arith

  -- each place of the targets is an edge of some node
  place_of : (i k : ℕ) → i < length starts → k < get_or starts i 0 → (x : ℕ) × (x + 1 < length starts) × (get_or starts x 0 ≤ k) × (k < get_or starts (x + 1) 0)
  place_of zero k h l = absurd (let e : get_or starts 0 0 ≡ 0 = open_so.first in omega arith)
  place_of (suc i) k h l = side (cases_lt k (get_or starts i 0)) (λ m. place_of i k (omega arith) m)
    where
      side : (k < get_or starts i 0) ⊎ (get_or starts i 0 ≤ k) → (k < get_or starts i 0 → (x : ℕ) × (x + 1 < length starts) × (get_or starts x 0 ≤ k) × (k < get_or starts (x + 1) 0)) → (x : ℕ) × (x + 1 < length starts) × (get_or starts x 0 ≤ k) × (k < get_or starts (x + 1) 0)
      side (inl m) f = f m
      side (inr m) f = let e : suc i ≡ i + 1 = omega arith in (i, omega arith, m, subst (λ j. k < get_or starts j 0) e l)

  -- where edges lead to nodes, it is a graph
  pub is_graph : ((x y : ℕ) → HasEdge (edges_of starts targets) x y → IsNode (edges_of starts targets) y) → IsGraph (edges_of starts targets)
  is_graph to = record {
    some_start = some_start;
    never_falls = open_so.within.never_falls;
    within = open_so.within.within;
    to_nodes = λ k h. found k (place_of (length starts - 1) k (let s : 0 < length starts = some_start in omega arith) (let e : get_or starts (length starts - 1) 0 ≡ length targets = open_so.last in omega arith));
  }
    where
      found : (k : ℕ) → (x : ℕ) × (x + 1 < length starts) × (get_or starts x 0 ≤ k) × (k < get_or starts (x + 1) 0) → IsNode (edges_of starts targets) (get_or targets k 0)
      found k (x, n, f, b) = to x (get_or targets k 0) (record { place = k; from = f; before = b; leads = refl })

-- the same in the words of the code
pub node_open : (starts targets new : List ℕ) → IsOpen starts targets → new ≡ starts ++ length targets ∷ [] → IsOpen new targets
node_open starts targets new o e = subst (λ s. IsOpen s targets) (sym e) (node_opens starts targets o)

pub node_added : (starts targets new : List ℕ) → IsOpen starts targets → new ≡ starts ++ length targets ∷ [] → (x y : ℕ) → HasEdge (edges_of new targets) x y ↔ HasEdge (edges_of starts targets) x y
node_added starts targets new o e = subst (λ s. (x y : ℕ) → HasEdge (edges_of s targets) x y ↔ HasEdge (edges_of starts targets) x y) (sym e) (node_edges starts targets o)

pub edge_open : (starts targets new more : List ℕ) (t : ℕ) → IsOpen starts targets → 1 < length starts → new ≡ set starts (length starts - 1) (length targets + 1) → more ≡ targets ++ t ∷ [] → IsOpen new more
edge_open starts targets new longer t o h e f = subst (λ ts. IsOpen new ts) (sym f) (subst (λ s. IsOpen s (targets ++ t ∷ [])) (sym e) (edge_opens starts targets o t h))

pub edge_added : (starts targets new more : List ℕ) (t : ℕ) → IsOpen starts targets → 1 < length starts → new ≡ set starts (length starts - 1) (length targets + 1) → more ≡ targets ++ t ∷ [] → (x y : ℕ) → HasEdge (edges_of new more) x y ↔ (HasEdge (edges_of starts targets) x y ⊎ ((x + 2 ≡ length starts) × (y ≡ t)))
edge_added starts targets new longer t o h e f =
    subst (λ ts. (x y : ℕ) → HasEdge (edges_of new ts) x y ↔ (HasEdge (edges_of starts targets) x y ⊎ ((x + 2 ≡ length starts) × (y ≡ t)))) (sym f)
    (subst (λ s. (x y : ℕ) → HasEdge (edges_of s (targets ++ t ∷ [])) x y ↔ (HasEdge (edges_of starts targets) x y ⊎ ((x + 2 ≡ length starts) × (y ≡ t)))) (sym e) (edge_edges starts targets o t h))

pub refused_of : (result : Option Edges) (starts targets : List ℕ) (g : Edges) → IsOpen starts targets → edges_of starts targets ≡ g → IfNone result (IsGraph (edges_of starts targets) → ⊥) → IfNone result (((x y : ℕ) → HasEdge g x y → IsNode g y) → ⊥)
refused_of None starts targets g o e f = subst (λ h. ((x y : ℕ) → HasEdge h x y → IsNode h y) → ⊥) e (λ to. f (is_graph starts targets o to))
refused_of (Some h) starts targets g o e f = tt
