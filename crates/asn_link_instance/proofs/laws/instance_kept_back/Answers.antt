use Rattle.asn_link_instance.proofs.Kept.{instance_kept_back}
use Rattle.asn_link_instance.proofs.laws.instance_kept_back.Goals as goal

pub returns : goal.returns
returns c = instance_kept_back
