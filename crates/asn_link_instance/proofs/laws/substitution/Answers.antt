use Rattle.asn_link_instance.proofs.Kept.{substitution}
use Rattle.asn_link_instance.proofs.laws.substitution.Goals as goal

pub returns : goal.returns
returns c = substitution
