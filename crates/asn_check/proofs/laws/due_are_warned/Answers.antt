use Rattle.asn_check.proofs.Needed.{due_are_warned}
use Rattle.asn_check.proofs.laws.due_are_warned.Goals as goal

pub returns : goal.returns
returns c = due_are_warned c.faults_stand.ensures
