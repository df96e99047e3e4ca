use Rattle.std.proofs.Common.{sym}
use Rattle.asn_meaning_heads.proofs.Due.{due_in_parts}
use Rattle.asn_meaning_heads.proofs.tokens.+is_due.Goals as goal

pub returns-in-Some : goal.returns-in-Some
returns-in-Some t c =
    sym (due_in_parts c.args.text.now c.args.behind.now c.in-Parts.parts c.in-Parts.from c.in-Parts.grouped c.in-Parts.others c.in-Some.due c.in-Parts.is (sym c.in-Some.ensures))
