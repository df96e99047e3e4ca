use Rattle.std.proofs.Common.{◌≡◌, ℕ, ◌<◌, ◌≤◌, get_or, true, false}
use Rattle.asn_names_graph.proofs.tables.leads_to_free.Given as goal

abbrev pub invariant-loop-edge : goal.invariant-loop-edge
invariant-loop-edge l = record {
  other : (k : ℕ) → get_or l.starts l.node 0 ≤ k → k < l.edge → get_or l.numbers (get_or l.targets k 0) 0 ≡ l.number → ⊥;
  free : (k : ℕ) → get_or l.starts l.node 0 ≤ k → k < l.edge → get_or l.free (get_or l.targets k 0) false ≡ true;
}
