use Rattle.std.proofs.Common.{◌≡◌, ℕ, ◌<◌, ◌↔◌, length, get_or, true, false}
use Rattle.asn_names_graph.specs.Graphs.{edges_of}
use Rattle.asn_names_graph.specs.inner.Numbered.{ReturnsTo}
use Rattle.asn_names_graph.proofs.tables.cycle_table.Given as goal

abbrev pub invariant-loop-node : goal.invariant-loop-node
invariant-loop-node l = record {
  long : length l.table.items ≡ l.node;
  told : (x : ℕ) → x < l.node → ((get_or l.table.items x false ≡ true) ↔ ReturnsTo (edges_of l.starts l.targets) l.numbers x);
}
