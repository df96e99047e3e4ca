use Rattle.std.proofs.Common.{sym, arith}
use Rattle.asn_meaning_values.proofs.Spelling.{too_few, too_many}
use Rattle.asn_meaning_values.proofs.texts.quadruple.Goals.{in_default-via-then-values-lt4, in_default-via-else-values-lt4+else-values-lt5}
use Rattle.asn_meaning_values.proofs.texts.quadruple.Goals as goal

pub returns-in_default : goal.returns-in_default
returns-in_default c =
    elim c.in_default.branch [
      | in_default-via-then-values-lt4 w ↦ sym (too_few c.args.values.now (grind arith))
      | in_default-via-else-values-lt4+else-values-lt5 w ↦ sym (too_many c.args.values.now (grind arith))
    ]
