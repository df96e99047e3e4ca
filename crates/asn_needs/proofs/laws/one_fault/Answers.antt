use Rattle.asn_needs.proofs.OneFault.{one_fault}
use Rattle.asn_needs.proofs.laws.one_fault.Goals as goal

pub returns : goal.returns
returns c = one_fault
