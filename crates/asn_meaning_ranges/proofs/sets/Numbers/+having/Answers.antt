use Rattle.asn_meaning_ranges.specs.inner.Wides.{wide}
use Rattle.asn_meaning_ranges.proofs.Setting.{among_has}
use Rattle.asn_meaning_ranges.proofs.sets.Numbers.+having.Goals as goal

pub has_wide-returns-in-Among : goal.has_wide-returns-in-Among
has_wide-returns-in-Among t c =
    among_has c.args.self.now c.in-Among.codes c.as_slice.result.now (wide c.args.number) c.is_code.result c.in-Among.is c.as_slice.ensures c.is_code.ensures
