use Rattle.std.proofs.Common.{◌≡◌, take}
use Rattle.asn_link_types.proofs.leaves.copied_numbers.Given as goal

abbrev pub invariant-loop-number : goal.invariant-loop-number
invariant-loop-number l = l.copies ≡ take l.number-index l.number-items
