use Rattle.asn_link_instance.proofs.Closed.{closed_names_mean_the_same}
use Rattle.asn_link_instance.proofs.laws.closed_names_mean_the_same.Goals as goal

pub returns : goal.returns
returns c = closed_names_mean_the_same
