use Rattle.asn_text.proofs.Gaps.{gap_fault}
use Rattle.asn_text.proofs.gap.gap_end.Goals as goal

pub returns-clause-err : goal.returns-clause-err
returns-clause-err c = gap_fault _ c.args.input c.args.depth c.end_of.result c.end_of.ensures.err
