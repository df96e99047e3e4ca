-- Where a search begins at a node, and where it ends.
use Rattle.std.proofs.Common.{◌≡◌, ℕ, ◌+◌, ◌<◌, ◌≤◌, ◌⊎◌, inl, inr, [], length, subst, arith}
use Rattle.std.proofs.lemmas.Bool.{cases_lt}
use Rattle.asn_names_graph.specs.Graphs.{Edges, Has, IsNode}
use Rattle.asn_names_graph.specs.declared.mark.Mark.TheVariants.{New, OnPath}
use Rattle.asn_names_graph.specs.inner.State.{State, mark_of, visited}
use Rattle.asn_names_graph.specs.inner.Valid.{Valid, StepsOn, Reaches}
use Rattle.asn_names_graph.proofs.Visits.{visit_steps}

-- without a call the path is empty
pub no_path : (g : Edges) (s : State) → Valid g s → s.calls ≡ [] → (z p : ℕ) → mark_of s.marks z ≡ OnPath p → ⊥
no_path g s v e z p f =
    let h : p < length s.path = v.tidy.placed z p f in
    subst (λ l. Has l 0) e (v.stacked.called 0 (v.stacked.bottom (omega arith)))

module _ (g : Edges) (s : State) (y : ℕ) (v : Valid g s) (no_call : s.calls ≡ []) (node : IsNode g y) (new : mark_of s.marks y ≡ New) where
  pub root_steps : (t : State) → t ≡ visited s y → StepsOn g s t
  root_steps t e = visit_steps g s y v node new (λ z p f. absurd (no_path g s v no_call z p f)) t e

-- one more node was met
pub met_more : (g : Edges) (s t : State) (i : ℕ) → ((y : ℕ) → y < i → mark_of s.marks y ≡ New → ⊥) → Reaches g s t i → (y : ℕ) → y < i + 1 → mark_of t.marks y ≡ New → ⊥
met_more g s t i before r y h = go (cases_lt y i)
  where
    go : (y < i) ⊎ (i ≤ y) → mark_of t.marks y ≡ New → ⊥
    go (inl l) = r.known y (before y l)
    go (inr l) = let e : i ≡ y = omega arith in subst (λ k. mark_of t.marks k ≡ New → ⊥) e r.met
