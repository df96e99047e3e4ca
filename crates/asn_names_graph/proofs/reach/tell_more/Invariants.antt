use Rattle.std.proofs.Common.{◌≡◌, ℕ, ◌+◌, ◌<◌, get_or, length, true, false}
use Rattle.asn_names_graph.specs.Graphs.{edges_of}
use Rattle.asn_names_graph.specs.Reach.{IsMarked}
use Rattle.asn_names_graph.specs.inner.Spread.{AreSpread, LeadsOn, missing}
use Rattle.asn_names_graph.proofs.reach.tell_more.Given as goal

abbrev pub invariant-loop-node : goal.invariant-loop-node
invariant-loop-node l = record {
  long : length l.told.items + 1 ≡ length l.starts;
  spread : AreSpread (edges_of l.starts l.targets) l.initial.told.items l.told.items;
  none : l.any ≡ false → (l.told.items ≡ l.initial.told.items) × ((i : ℕ) → i < l.node-index → LeadsOn (edges_of l.starts l.targets) l.told.items (get_or l.order i 0) → IsMarked l.told.items (get_or l.order i 0));
  some : l.any ≡ true → missing l.told.items < missing l.initial.told.items;
}
