use Rattle.std.proofs.Common.{◌≡◌, take}
use Rattle.asn_names_graph.proofs.reach.copied.Given as goal

abbrev pub invariant-loop-mark : goal.invariant-loop-mark
invariant-loop-mark l = l.told.items ≡ take l.mark-index l.marked
