use Rattle.std.proofs.Common.{◌≡◌, length}
use Rattle.asn_rules_guards.specs.Enumerations.{past}
use Rattle.asn_rules_guards.proofs.enumerations.past.Given as goal

abbrev pub invariant-loop-byte : goal.invariant-loop-byte
invariant-loop-byte l = past l.mark l.rest ≡ past l.mark l.bytes

abbrev pub decreases-loop-byte : goal.decreases-loop-byte
decreases-loop-byte l = length l.rest
