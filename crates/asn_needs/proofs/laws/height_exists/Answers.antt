use Rattle.asn_needs.proofs.Heights.{height_exists}
use Rattle.asn_needs.proofs.laws.height_exists.Goals as goal

pub returns : goal.returns
returns c = height_exists
