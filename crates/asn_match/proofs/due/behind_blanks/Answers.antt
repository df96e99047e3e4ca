use Rattle.asn_rules.specs.Expression.{skip}
use Rattle.asn_rules.specs.Grammar.{rules_of}
use Rattle.asn_rules.specs.Runs.{ends}
use Rattle.asn_rules.specs.declared.names.TheConstants.{SP}
use Rattle.asn_match.proofs.Dues.{fails_never, same_fault}
use Rattle.asn_match.proofs.due.behind_blanks.Goals as goal

pub returns-in-Ok-Fail-clause-never : goal.returns-in-Ok-Fail-clause-never
returns-in-Ok-Fail-clause-never g c =
    let came = rw c.in-Ok-Fail.field-0-is at c.in-Ok-Fail.ensures.came in
    λ _. fails_never (rules_of c.args.grammar) c.args.text.now c.args.depth {e = skip SP} c.requires.start came

pub returns-in-Err-clause-never : goal.returns-in-Err-clause-never
returns-in-Err-clause-never g c = λ same j. c.in-Err.ensures.never (same_fault c.in-Err.fault same) (ends j)
