use Rattle.std.proofs.Common.{◌≡◌, length}
use Rattle.asn_rules_guards.specs.Guards.{bare}
use Rattle.asn_rules_guards.specs.inner.Sizes.{lengthened_by, part}
use Rattle.asn_rules_guards.proofs.guards.with_digits.Given as goal

abbrev pub invariant-loop-digit : goal.invariant-loop-digit
invariant-loop-digit l = lengthened_by (part l.stretch (bare l.digits)) 0 ≡ lengthened_by (part l.stretch (bare l.rest)) l.value

abbrev pub decreases-loop-digit : goal.decreases-loop-digit
decreases-loop-digit l = length l.rest
