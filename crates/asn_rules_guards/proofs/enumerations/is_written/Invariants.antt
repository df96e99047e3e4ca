use Rattle.std.proofs.Common.{◌≡◌, length}
use Rattle.asn_tree_numbers.specs.Enumeration.{has, written}
use Rattle.asn_rules_guards.specs.Enumerations.{items}
use Rattle.asn_rules_guards.proofs.enumerations.is_written.Given as goal

abbrev pub invariant-loop-item : goal.invariant-loop-item
invariant-loop-item l = has (written (items l.bytes)) l.number ≡ has (written (items l.rest)) l.number

abbrev pub decreases-loop-item : goal.decreases-loop-item
decreases-loop-item l = length l.rest
