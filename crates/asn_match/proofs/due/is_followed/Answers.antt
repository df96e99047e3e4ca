use Rattle.asn_rules.specs.Grammar.{rules_of}
use Rattle.asn_match.proofs.Dues.{followed, same_fault}
use Rattle.asn_match.proofs.due.is_followed.Goals as goal

pub returns-in-Ok-clause-followed : goal.returns-in-Ok-clause-followed
returns-in-Ok-clause-followed g c = rw c.len.ensures (followed (rules_of c.args.grammar) c.args.text.now c.args.depth c.requires.start c.in-Ok.ensures.ends.0)

pub returns-in-Err-clause-never : goal.returns-in-Err-clause-never
returns-in-Err-clause-never g c = λ same j. c.in-Err.ensures.never (same_fault c.in-Err.fault same) j
