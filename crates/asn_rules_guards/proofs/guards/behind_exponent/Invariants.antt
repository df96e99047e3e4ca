use Rattle.std.proofs.Common.{◌≡◌, length}
use Rattle.asn_rules_guards.specs.Guards.{bare, behind_exponent_mark}
use Rattle.asn_rules_guards.proofs.guards.behind_exponent.Given as goal

abbrev pub invariant-loop-byte : goal.invariant-loop-byte
invariant-loop-byte l = behind_exponent_mark (bare l.rest) ≡ behind_exponent_mark (bare l.bytes)

abbrev pub decreases-loop-byte : goal.decreases-loop-byte
decreases-loop-byte l = length l.rest
