use Rattle.asn_link_instance.proofs.LiteralsSteady.{literals_steady}
use Rattle.asn_link_instance.proofs.laws.literals_steady.Goals as goal

pub returns : goal.returns
returns c = literals_steady
