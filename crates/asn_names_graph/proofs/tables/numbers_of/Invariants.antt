use Rattle.std.proofs.Common.{◌≡◌, ◌++◌, drop, map}
use Rattle.asn_names_graph.specs.inner.Numbered.{number_in}
use Rattle.asn_names_graph.proofs.tables.numbers_of.Given as goal

abbrev pub invariant-loop-mark : goal.invariant-loop-mark
invariant-loop-mark l = l.numbers.items ++ map number_in (drop l.mark-index l.marks) ≡ map number_in l.marks
