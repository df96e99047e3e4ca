use Rattle.std.proofs.Common.{◌≡◌, ◌^◌, ◌-◌}
use Rattle.asn_rules_guards.specs.Enumerations.{items, least_free}
use Rattle.asn_rules_guards.specs.inner.Sizes.{is_taken}
use Rattle.asn_rules_guards.proofs.enumerations.least_free.Given as goal

abbrev pub invariant-loop-fitting : goal.invariant-loop-fitting
invariant-loop-fitting l = least_free (is_taken (items l.root) l.end) l.number ≡ least_free (is_taken (items l.root) l.end) l.from

abbrev pub decreases-loop-fitting : goal.decreases-loop-fitting
decreases-loop-fitting l = 2 ^ 127 - l.number
