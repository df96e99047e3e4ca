use Rattle.std.proofs.Common.{arith}
use Rattle.std.proofs.lemmas.Grind.{common_steps}
use Rattle.asn_rules_guards.proofs.Bare.{line_goes_on}
use Rattle.asn_rules_guards.proofs.gaps.behind_line.Goals as goal

pub loop-rest-preserved : goal.loop-rest-preserved
loop-rest-preserved c =
    record {
      same = grind (arith, common_steps, line_goes_on, c.loop-rest.invariant.same, c.behind-rest.ensures);
      shorter = grind (arith, common_steps, c.behind-rest.ensures, c.loop-rest.invariant.shorter);
    }
