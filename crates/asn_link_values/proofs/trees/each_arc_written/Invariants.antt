use Rattle.std.proofs.Common.{◌≡◌, ◌++◌, drop, map}
use Rattle.asn_link_instance.specs.Literals.{written_arc}
use Rattle.asn_meaning.specs.Rows.{arc_tree}
use Rattle.asn_link_values.proofs.trees.each_arc_written.Given as goal

abbrev pub invariant-loop-arc : goal.invariant-loop-arc
invariant-loop-arc l = l.written ++ map written_arc (map arc_tree (drop l.arc-index l.arcs)) ≡ map written_arc (map arc_tree l.arcs)
