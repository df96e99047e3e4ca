use Rattle.std.proofs.Common.{◌≡◌, ◌++◌, length, drop}
use Rattle.asn_names_graph.specs.inner.State.{closed_marks}
use Rattle.asn_names_graph.proofs.search.Search.close.Given as goal

abbrev pub invariant-loop-i : goal.invariant-loop-i
invariant-loop-i l = record {
  length : length l.self.marks.items ≡ length l.initial.self.marks.items;
  marks : closed_marks l.part (drop l.i l.self.path.items) l.self.marks.items ≡ closed_marks l.part (drop l.place l.initial.self.path.items) l.initial.self.marks.items;
  order : l.self.order.items ++ drop l.i l.self.path.items ≡ l.initial.self.order.items ++ drop l.place l.initial.self.path.items;
  next : l.self.next ≡ l.initial.self.next;
  path : l.self.path ≡ l.initial.self.path;
  calls : l.self.calls ≡ l.initial.self.calls;
  bounds : l.self.bounds ≡ l.initial.self.bounds;
}
