use Rattle.std.proofs.Common.{◌≡◌, length}
use Rattle.std.specs.List.{list_all}
use Rattle.asn_rules_guards.specs.Enumerations.{items}
use Rattle.asn_rules_guards.specs.inner.Sizes.{is_far}
use Rattle.asn_rules_guards.proofs.enumerations.are_far.Given as goal

abbrev pub invariant-loop-item : goal.invariant-loop-item
invariant-loop-item l = list_all is_far (items l.bytes) ≡ list_all is_far (items l.rest)

abbrev pub decreases-loop-item : goal.decreases-loop-item
decreases-loop-item l = length l.rest
