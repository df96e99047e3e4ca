use Rattle.std.proofs.Common.{◌≡◌, ◌≤◌, length}
use Rattle.asn_rules_guards.specs.Enumerations.{behind_name}
use Rattle.asn_rules_guards.proofs.enumerations.behind_name.Given as goal

abbrev pub invariant-loop-rest : goal.invariant-loop-rest
invariant-loop-rest l = (behind_name l.rest ≡ behind_name l.bytes) × (length l.rest ≤ length l.bytes)

abbrev pub decreases-loop-rest : goal.decreases-loop-rest
decreases-loop-rest l = length l.rest
