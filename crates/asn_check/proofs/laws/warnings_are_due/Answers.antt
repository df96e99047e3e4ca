use Rattle.asn_check.proofs.Warned.{are_due}
use Rattle.asn_check.proofs.laws.warnings_are_due.Goals as goal

pub returns : goal.returns
returns c = are_due
