use Rattle.asn_link_instance.proofs.FewerTypes.{fewer_names}
use Rattle.asn_link_instance.proofs.laws.fewer_names.Goals as goal

pub returns : goal.returns
returns c = fewer_names
