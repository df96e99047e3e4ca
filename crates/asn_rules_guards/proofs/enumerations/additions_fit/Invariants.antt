use Rattle.std.proofs.Common.{◌≡◌, length}
use Rattle.asn_rules_guards.specs.Enumerations.{additions_fit, items}
use Rattle.asn_rules_guards.specs.inner.Sizes.{is_taken}
use Rattle.asn_rules_guards.proofs.enumerations.additions_fit.Given as goal

abbrev pub invariant-loop-item : goal.invariant-loop-item
invariant-loop-item l = additions_fit (is_taken (items l.root) l.end) 0 (items l.additions) ≡ additions_fit (is_taken (items l.root) l.end) l.from (items l.rest)

abbrev pub decreases-loop-item : goal.decreases-loop-item
decreases-loop-item l = length l.rest
