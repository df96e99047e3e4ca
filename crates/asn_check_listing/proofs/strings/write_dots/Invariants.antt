use Rattle.std.proofs.Common.{◌≡◌, ◌++◌}
use Rattle.asn_check_listing.specs.Words.{dots}
use Rattle.asn_check_listing.proofs.strings.write_dots.Given as goal

abbrev pub invariant-loop-left : goal.invariant-loop-left
invariant-loop-left l = l.out ++ dots l.left ≡ l.initial.out ++ dots l.number

abbrev pub decreases-loop-left : goal.decreases-loop-left
decreases-loop-left l = l.left
