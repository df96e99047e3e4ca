use Rattle.std.proofs.Common.{◌∙◌, sym}
use Rattle.asn_tree_numbers.proofs.Counting.{passed}
use Rattle.asn_tree_numbers.proofs.enumeration.least_from.Goals as goal

pub returns : goal.returns
returns c =
    let i = c.loop-fitting.invariant in
    passed c.args.taken.now.numbers c.args.from c.loop-fitting.number i.0 i.1 (sym c.if_fits.ensures ∙ c.in_default.is)
