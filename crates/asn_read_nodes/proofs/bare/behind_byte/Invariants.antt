use Rattle.std.proofs.Common.{◌≡◌, length}
use Rattle.asn_rules_guards.specs.Guards.{behind}
use Rattle.asn_read_nodes.proofs.bare.behind_byte.Given as goal

abbrev pub invariant-loop-rest : goal.invariant-loop-rest
invariant-loop-rest l = behind l.mark l.rest ≡ behind l.mark l.bytes

abbrev pub decreases-loop-rest : goal.decreases-loop-rest
decreases-loop-rest l = length l.rest
