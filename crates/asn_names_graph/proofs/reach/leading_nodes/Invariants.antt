use Rattle.std.proofs.Common.{◌≡◌, ◌+◌, length}
use Rattle.asn_names_graph.specs.inner.Spread.{AreSpread, missing}
use Rattle.asn_names_graph.proofs.reach.leading_nodes.Given as goal

abbrev pub invariant-loop-starts : goal.invariant-loop-starts
invariant-loop-starts l = record {
  long : length l.told.items + 1 ≡ length l.components.edges.starts;
  spread : AreSpread l.components.edges l.marked l.told.items;
}

abbrev pub decreases-loop-starts : goal.decreases-loop-starts
decreases-loop-starts l = missing l.told.items
