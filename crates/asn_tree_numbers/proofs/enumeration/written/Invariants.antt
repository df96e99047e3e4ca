use Rattle.std.proofs.Common.{◌≡◌, ◌++◌, drop}
use Rattle.asn_tree_numbers.specs.Enumeration.{written}
use Rattle.asn_tree_numbers.proofs.enumeration.written.Given as goal

abbrev pub invariant-loop-item : goal.invariant-loop-item
invariant-loop-item l = l.numbers ++ written (drop l.item-index l.items) ≡ written l.items
