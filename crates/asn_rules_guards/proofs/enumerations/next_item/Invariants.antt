use Rattle.std.proofs.Common.{◌≡◌, ◌≤◌, length}
use Rattle.asn_rules_guards.specs.Enumerations.{items}
use Rattle.asn_rules_guards.proofs.enumerations.next_item.Given as goal

abbrev pub invariant-loop-byte : goal.invariant-loop-byte
invariant-loop-byte l = (items l.rest ≡ items l.bytes) × (length l.rest ≤ length l.bytes)

abbrev pub decreases-loop-byte : goal.decreases-loop-byte
decreases-loop-byte l = length l.rest
