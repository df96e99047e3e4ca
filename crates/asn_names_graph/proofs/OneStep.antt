-- One step of a search, in the words of the code.
use Rattle.std.proofs.Common.{◌≡◌, ℕ, ◌+◌, ◌<◌, ◌≤◌, Some, length, get_or, ap, sym, ◌∙◌, subst, arith}
use Rattle.asn_names_graph.specs.Graphs.{Edges, HasEdge, IsGraph, IsNode}
use Rattle.asn_names_graph.specs.declared.mark.Mark.TheVariants.{New, OnPath, Done}
use Rattle.asn_names_graph.specs.inner.State.{State, mark_of, visited, joined, passed, top_of}
use Rattle.asn_names_graph.specs.inner.Valid.{Valid, StepsOn}
use Rattle.asn_names_graph.proofs.Leaves.{top_within}
use Rattle.asn_names_graph.proofs.Passes.{pass_steps, join_steps, reach_edge}
use Rattle.asn_names_graph.proofs.Visits.{visit_steps}

-- what is known of the node on top of the calls
pub record AtWork (g : Edges) (s : State) (px x : ℕ) : Type 0 where
  pub mark : mark_of s.marks x ≡ OnPath px
  pub node : IsNode g x
  pub in_next : x < length s.next
  pub in_marks : x < length s.marks

pub at_work : (g : Edges) (s : State) (px x : ℕ) → Valid g s → top_of s.calls ≡ Some px → x ≡ get_or s.path px 0 → AtWork g s px x
at_work g s px x v top e =
    let n : IsNode g x = subst (λ k. IsNode g k) (sym e) (v.tidy.nodes px (top_within g s px v top)) in
    let l : length s.next ≡ length g.starts = v.tidy.next_length in
    let m : length s.marks ≡ length g.starts = v.tidy.marks_length in
    record {
      mark = ap (λ k. mark_of s.marks k) e ∙ v.tidy.standing px (top_within g s px v top);
      node = n;
      in_next = omega arith;
      in_marks = omega arith;
    }

-- what is known of an edge that is left
pub record EdgeLeft (g : Edges) (s : State) (x k y : ℕ) : Type 0 where
  pub edge : HasEdge g x y
  pub target : IsNode g y
  pub in_marks : y < length s.marks
  pub in_targets : k < length g.targets

pub edge_left : (g : Edges) (s : State) (px x k y : ℕ) → IsGraph g → Valid g s → AtWork g s px x → k ≡ get_or s.next x 0 → k < get_or g.starts (x + 1) 0 → y ≡ get_or g.targets k 0 → EdgeLeft g s x k y
edge_left g s px x k y graph v a e l t =
    let w : get_or g.starts (x + 1) 0 ≤ length g.targets = graph.within x a.node in
    let i : k < length g.targets = omega arith in
    let n : IsNode g y = subst (λ z. IsNode g z) (sym t) (graph.to_nodes k i) in
    let m : length s.marks ≡ length g.starts = v.tidy.marks_length in
    let b : get_or g.starts x 0 ≤ get_or s.next x 0 = v.tidy.not_before x in
    record {
      edge = record { place = k; from = omega arith; before = l; leads = sym t };
      target = n;
      in_marks = omega arith;
      in_targets = i;
    }

module _ (g : Edges) (s : State) (px x k y : ℕ) (graph : IsGraph g) (v : Valid g s) (top : top_of s.calls ≡ Some px) (at : x ≡ get_or s.path px 0) (now : k ≡ get_or s.next x 0) (left : k < get_or g.starts (x + 1) 0) (leads : y ≡ get_or g.targets k 0) (t : State) where
  a : AtWork g s px x
  a = at_work g s px x v top at

  here : get_or g.targets (get_or s.next x 0) 0 ≡ y
  here = ap (λ z. get_or g.targets z 0) (sym now) ∙ sym leads

  left_now : get_or s.next x 0 < get_or g.starts (x + 1) 0
  left_now = omega arith

  edge : HasEdge g x y
  edge = (edge_left g s px x k y graph v a now left leads).edge

  pub step_visits : mark_of s.marks y ≡ New → t ≡ visited s y → StepsOn g s t
  step_visits e f =
      visit_steps g s y v (edge_left g s px x k y graph v a now left leads).target e (reach_edge g s px x v top a.mark y edge) t f

  pub step_joins : (q : ℕ) → mark_of s.marks y ≡ OnPath q → t ≡ passed (joined s q) x → StepsOn g s t
  step_joins q e f = join_steps g s px x v top a.mark left_now t q (ap (λ z. mark_of s.marks z) here ∙ e) (subst (λ z. HasEdge g x z) (sym here) edge) f

  pub step_passes : (c : ℕ) → mark_of s.marks y ≡ Done c → t ≡ passed s x → StepsOn g s t
  step_passes c e f = pass_steps g s px x v top a.mark left_now t c (ap (λ z. mark_of s.marks z) here ∙ e) f
