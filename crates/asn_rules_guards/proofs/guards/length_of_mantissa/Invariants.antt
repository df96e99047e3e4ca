use Rattle.std.proofs.Common.{◌≡◌, ◌+◌, ◌≤◌, length}
use Rattle.asn_rules_guards.specs.Guards.{bare, mantissa}
use Rattle.asn_rules_guards.proofs.guards.length_of_mantissa.Given as goal

abbrev pub invariant-loop-behind : goal.invariant-loop-behind
invariant-loop-behind l = record { sum : length (mantissa (bare l.bytes)) ≡ l.count + length (mantissa (bare l.rest)); within : l.count + length l.rest ≤ length l.bytes }

abbrev pub decreases-loop-behind : goal.decreases-loop-behind
decreases-loop-behind l = length l.rest
