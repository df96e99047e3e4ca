use Rattle.std.proofs.Common.{arith}
use Rattle.std.proofs.lemmas.Grind.{common_steps}
use Rattle.asn_rules_guards.proofs.Bare.{line_opens, comment_opens}
use Rattle.asn_rules_guards.proofs.gaps.behind_gap.Goals as goal

pub loop-rest-preserved-then-starts_with : goal.loop-rest-preserved-then-starts_with
loop-rest-preserved-then-starts_with c =
    record {
      same = grind (arith, common_steps, line_opens, c.loop-rest.invariant.same, c.behind.ensures, c.behind_line-rest.ensures.same);
      shorter = grind (arith, common_steps, c.behind.ensures, c.behind_line-rest.ensures.shorter, c.loop-rest.invariant.shorter);
    }

pub loop-rest-preserved-then-starts_with-2 : goal.loop-rest-preserved-then-starts_with-2
loop-rest-preserved-then-starts_with-2 c =
    record {
      same = grind (arith, common_steps, comment_opens, c.loop-rest.invariant.same, c.behind-then-starts_with-2.ensures, c.behind_block-rest.ensures.same);
      shorter = grind (arith, common_steps, c.behind-then-starts_with-2.ensures, c.behind_block-rest.ensures.shorter, c.loop-rest.invariant.shorter);
    }
