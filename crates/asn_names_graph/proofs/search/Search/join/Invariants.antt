use Rattle.std.proofs.Common.{◌≡◌, length}
use Rattle.asn_names_graph.specs.inner.State.{down_to}
use Rattle.asn_names_graph.proofs.search.Search.join.Given as goal

abbrev pub invariant-loop-bound : goal.invariant-loop-bound
invariant-loop-bound l = record {
  bounds : down_to l.place l.self.bounds ≡ down_to l.place l.initial.self.bounds;
  marks : l.self.marks ≡ l.initial.self.marks;
  next : l.self.next ≡ l.initial.self.next;
  path : l.self.path ≡ l.initial.self.path;
  order : l.self.order ≡ l.initial.self.order;
  calls : l.self.calls ≡ l.initial.self.calls;
}

abbrev pub decreases-loop-bound : goal.decreases-loop-bound
decreases-loop-bound l = length l.self.bounds
