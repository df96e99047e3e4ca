use Rattle.std.proofs.Common.{◌≡◌, ℕ, ◌<◌, ◌↔◌, length, get_or, true, false}
use Rattle.asn_names_graph.specs.Graphs.{edges_of, NeedsNoCycle}
use Rattle.asn_names_graph.proofs.tables.free_table.Given as goal

abbrev pub invariant-loop-i : goal.invariant-loop-i
invariant-loop-i l = record {
  long : length l.table.items ≡ length l.starts;
  told : (j : ℕ) → j < l.i → ((get_or l.table.items (get_or l.order j 0) false ≡ true) ↔ NeedsNoCycle (edges_of l.starts l.targets) (get_or l.order j 0));
}
