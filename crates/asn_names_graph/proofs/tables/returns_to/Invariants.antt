use Rattle.std.proofs.Common.{◌≡◌, ℕ, ◌<◌, ◌≤◌, get_or}
use Rattle.asn_names_graph.proofs.tables.returns_to.Given as goal

abbrev pub invariant-loop-edge : goal.invariant-loop-edge
invariant-loop-edge l = (k : ℕ) → get_or l.starts l.node 0 ≤ k → k < l.edge → get_or l.numbers (get_or l.targets k 0) 0 ≡ l.number → ⊥
