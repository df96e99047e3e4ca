use Rattle.asn_names.proofs.Needed.{names_occur}
use Rattle.asn_names.proofs.laws.names_occur.Goals as goal

pub returns : goal.returns
returns c = names_occur
