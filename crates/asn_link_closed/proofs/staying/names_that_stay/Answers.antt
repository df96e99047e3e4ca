use Rattle.asn_link_closed.proofs.Telling.{names_told}
use Rattle.asn_link_closed.proofs.staying.names_that_stay.Goals as goal

pub returns : goal.returns
returns c = names_told
