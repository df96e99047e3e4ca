use Rattle.asn_text.proofs.Gaps.{item_part}
use Rattle.asn_text.proofs.readers.read_item.Goals as goal

pub part_end-start-requires-clause-part : goal.part_end-start-requires-clause-part
part_end-start-requires-clause-part c =
    rw c.inner-text.ensures (item_part _ c.args.rule c.args.depth c.in-Ok.end c.requires.skips_gap c.in-Ok.ensures.ok)
