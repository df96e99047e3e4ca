use Rattle.std.proofs.Common.{◌≡◌, ℕ, ◌<◌, ◌≤◌, get_or, true, false}
use Rattle.asn_names_graph.proofs.reach.leads_on.Given as goal

abbrev pub invariant-loop-edge : goal.invariant-loop-edge
invariant-loop-edge l = (k : ℕ) → get_or l.starts l.node 0 ≤ k → k < l.edge → get_or l.told (get_or l.targets k 0) false ≡ true → ⊥
