use Rattle.std.proofs.Common.{ℕ, ◌+◌, ◌<◌, ◌≤◌, get_or}
use Rattle.asn_names_graph.proofs.graph.are_starts.Given as goal

abbrev pub invariant-loop-node : goal.invariant-loop-node
invariant-loop-node l = record {
  never_falls : (x : ℕ) → x < l.node → get_or l.starts x 0 ≤ get_or l.starts (x + 1) 0;
  within : (x : ℕ) → x < l.node → get_or l.starts (x + 1) 0 ≤ l.count;
}
