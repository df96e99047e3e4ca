use Rattle.asn_link_instance.proofs.Literals.{literals_kept}
use Rattle.asn_link_instance.proofs.laws.literals_kept.Goals as goal

pub returns : goal.returns
returns c = literals_kept
