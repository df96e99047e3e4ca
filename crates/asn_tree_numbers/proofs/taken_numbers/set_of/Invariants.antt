use Rattle.std.proofs.Common.{◌≡◌, ℤ, take}
use Rattle.std.specs.BTreeSet.{contains}
use Rattle.std.specs.Ordering.{int_cmp}
use Rattle.asn_tree_numbers.specs.Enumeration.{has}
use Rattle.asn_tree_numbers.proofs.taken_numbers.set_of.Given as goal

abbrev pub invariant-loop-number : goal.invariant-loop-number
invariant-loop-number l = (q : ℤ) → contains int_cmp l.set q ≡ has (take l.number-index l.numbers) q
