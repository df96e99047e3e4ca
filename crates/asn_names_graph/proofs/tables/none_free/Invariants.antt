use Rattle.std.proofs.Common.{◌≡◌, length}
use Rattle.asn_names_graph.proofs.tables.none_free.Given as goal

abbrev pub invariant-loop-start : goal.invariant-loop-start
invariant-loop-start l = length l.table.items ≡ l._start-index
