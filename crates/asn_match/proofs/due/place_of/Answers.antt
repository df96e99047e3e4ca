use Rattle.asn_rules.specs.Due.{due_here}
use Rattle.asn_rules.specs.Grammar.{rules_of}
use Rattle.asn_match.proofs.Dues.{none_without_module, none_without_place, same_fault}
use Rattle.asn_match.proofs.due.place_of.Goals as goal

pub returns-in-Ok-behind_blanks-clause-due : goal.returns-in-Ok-behind_blanks-clause-due
returns-in-Ok-behind_blanks-clause-due g c = (due_here c.requires.lacking c.in-Ok.ensures.ends.0 c.in-Ok-behind_blanks.ensures.ends.0, c.in-Ok.ensures.ends.1, c.in-Ok-behind_blanks.ensures.ends.1)

pub returns-in-Err-behind_blanks-clause-never : goal.returns-in-Err-behind_blanks-clause-never
returns-in-Err-behind_blanks-clause-never g c = λ same. none_without_place (rules_of c.args.grammar) c.args.text.now c.args.depth c.requires.begun c.requires.lacking (c.in-Err-behind_blanks.ensures.never (same_fault c.in-Err-behind_blanks.fault same))

pub returns-in-Err-clause-never : goal.returns-in-Err-clause-never
returns-in-Err-clause-never g c = λ same. none_without_module (rules_of c.args.grammar) c.args.text.now c.args.depth c.requires.begun c.requires.lacking (c.in-Err.ensures.never (same_fault c.in-Err.fault same))
