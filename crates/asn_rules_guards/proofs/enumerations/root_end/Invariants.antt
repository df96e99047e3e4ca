use Rattle.std.proofs.Common.{◌≡◌, length}
use Rattle.asn_rules_guards.specs.Enumerations.{items}
use Rattle.asn_rules_guards.specs.inner.Sizes.{is_taken, root_end}
use Rattle.asn_rules_guards.proofs.enumerations.root_end.Given as goal

abbrev pub invariant-loop-item : goal.invariant-loop-item
invariant-loop-item l = root_end (is_taken (items l.root) 0) 0 (items l.root) ≡ root_end (is_taken (items l.root) 0) l.from (items l.rest)

abbrev pub decreases-loop-item : goal.decreases-loop-item
decreases-loop-item l = length l.rest
