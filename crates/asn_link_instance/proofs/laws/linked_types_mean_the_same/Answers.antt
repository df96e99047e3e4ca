use Rattle.asn_link_instance.proofs.Kept.{linked_types_mean_the_same}
use Rattle.asn_link_instance.proofs.laws.linked_types_mean_the_same.Goals as goal

pub returns : goal.returns
returns c = linked_types_mean_the_same
