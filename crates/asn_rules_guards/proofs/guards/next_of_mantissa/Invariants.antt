use Rattle.std.proofs.Common.{◌≡◌, ◌≤◌, length}
use Rattle.asn_rules_guards.specs.Guards.{bare, mantissa}
use Rattle.asn_rules_guards.proofs.guards.next_of_mantissa.Given as goal

abbrev pub invariant-loop-byte : goal.invariant-loop-byte
invariant-loop-byte l = record { same : mantissa (bare l.rest) ≡ mantissa (bare l.bytes); shorter : length l.rest ≤ length l.bytes }

abbrev pub decreases-loop-byte : goal.decreases-loop-byte
decreases-loop-byte l = length l.rest
