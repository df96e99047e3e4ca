use Rattle.std.proofs.Common.{◌≡◌, ◌≤◌, ◌+◌, length, suc}
use Rattle.asn_rules_guards.specs.Guards.{within}
use Rattle.asn_rules_guards.specs.Outside.{outside_from}
use Rattle.asn_rules_guards.proofs.gaps.behind_block.Given as goal

abbrev pub invariant-loop-rest : goal.invariant-loop-rest
invariant-loop-rest l =
    record {
      same : outside_from (within (suc l.inner)) l.rest ≡ outside_from (within 1) l.bytes;
      shorter : l.inner + length l.rest ≤ length l.bytes;
    }

abbrev pub decreases-loop-rest : goal.decreases-loop-rest
decreases-loop-rest l = length l.rest
