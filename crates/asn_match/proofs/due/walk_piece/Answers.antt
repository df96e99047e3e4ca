use Rattle.asn_rules.specs.Due.{passing, standing, missing, at_end}
use Rattle.asn_rules.specs.Grammar.{rules_of}
use Rattle.asn_match.proofs.Dues.{optional_fails, optional_never, required_never, same_fault}
use Rattle.asn_match.proofs.due.walk_piece.Goals as goal

pub returns-in-Ok-End-clause-walked : goal.returns-in-Ok-End-clause-walked
returns-in-Ok-End-clause-walked g c =
    let came = rw c.in-Ok-End.field-0-is at c.in-Ok-End.ensures.came in
    rw c.in-Optional.is (passing came.0 at_end, came.1, came.2)

pub returns-in-Ok-Fail-clause-never : goal.returns-in-Ok-Fail-clause-never
returns-in-Ok-Fail-clause-never g c =
    let came = rw c.in-Ok-Fail.field-0-is at c.in-Ok-Fail.ensures.came in
    rw c.in-Optional.is (λ _. optional_fails (rules_of c.args.grammar) c.args.text.now c.args.depth c.requires.start came)

pub returns-in-Err-clause-never : goal.returns-in-Err-clause-never
returns-in-Err-clause-never g c = rw c.in-Optional.is (λ same. optional_never (rules_of c.args.grammar) c.args.text.now c.args.depth (c.in-Err.ensures.never (same_fault c.in-Err.fault same)))

pub returns-in-Ok-End-come_to-clause-walked : goal.returns-in-Ok-End-come_to-clause-walked
returns-in-Ok-End-come_to-clause-walked g c =
    let came = rw c.in-Ok-End-come_to.field-0-is at c.in-Ok-End-come_to.ensures.came in
    rw c.in-Required.is (standing came.0 at_end, came.1, came.2)

pub returns-in-Ok-Fail-come_to-clause-walked : goal.returns-in-Ok-Fail-come_to-clause-walked
returns-in-Ok-Fail-come_to-clause-walked g c =
    let came = rw c.in-Ok-Fail-come_to.field-0-is at c.in-Ok-Fail-come_to.ensures.came in
    rw c.in-Required.is (missing came, c.requires.start)

pub returns-in-Err-come_to-clause-never : goal.returns-in-Err-come_to-clause-never
returns-in-Err-come_to-clause-never g c = rw c.in-Required.is (λ same. required_never (rules_of c.args.grammar) c.args.text.now c.args.depth (c.in-Err-come_to.ensures.never (same_fault c.in-Err-come_to.fault same)))
