use Rattle.std.proofs.Common.{◌≡◌, ◌≤◌, length}
use Rattle.asn_rules_guards.specs.Guards.{in_line}
use Rattle.asn_rules_guards.specs.Outside.{outside_from}
use Rattle.asn_rules_guards.proofs.gaps.behind_line.Given as goal

abbrev pub invariant-loop-rest : goal.invariant-loop-rest
invariant-loop-rest l =
    record {
      same : outside_from in_line l.rest ≡ outside_from in_line l.bytes;
      shorter : length l.rest ≤ length l.bytes;
    }

abbrev pub decreases-loop-rest : goal.decreases-loop-rest
decreases-loop-rest l = length l.rest
