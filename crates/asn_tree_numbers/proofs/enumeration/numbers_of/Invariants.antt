use Rattle.std.proofs.Common.{drop}
use Rattle.asn_tree_numbers.proofs.Counting.{Sofar}
use Rattle.asn_tree_numbers.proofs.enumeration.numbers_of.Given as goal

abbrev pub invariant-loop-item : goal.invariant-loop-item
invariant-loop-item l = Sofar l.part l.taken.numbers l.items (drop l.item-index l.items) l.numbers l.from
