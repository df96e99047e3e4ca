use Rattle.asn_needs.proofs.Heights.{height_means_no_cycle}
use Rattle.asn_needs.proofs.laws.height_means_no_cycle.Goals as goal

pub returns : goal.returns
returns c = height_means_no_cycle
