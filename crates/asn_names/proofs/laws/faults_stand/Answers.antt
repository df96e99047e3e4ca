use Rattle.asn_names.proofs.Faulted.{faults_stand}
use Rattle.asn_names.proofs.laws.faults_stand.Goals as goal

pub returns : goal.returns
returns c = faults_stand c.heads_stay.ensures
