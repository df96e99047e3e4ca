use Rattle.asn_link_instance.proofs.LiteralsPlain.{literals_plain}
use Rattle.asn_link_instance.proofs.laws.literals_plain.Goals as goal

pub returns : goal.returns
returns c = literals_plain
