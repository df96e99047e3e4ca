use Rattle.asn_link_instance.proofs.PlainTypes.{instances_are_plain}
use Rattle.asn_link_instance.proofs.laws.instances_are_plain.Goals as goal

pub returns : goal.returns
returns c = instances_are_plain
