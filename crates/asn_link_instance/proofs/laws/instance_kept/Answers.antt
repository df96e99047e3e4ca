use Rattle.asn_link_instance.proofs.Kept.{instance_kept}
use Rattle.asn_link_instance.proofs.laws.instance_kept.Goals as goal

pub returns : goal.returns
returns c = instance_kept
