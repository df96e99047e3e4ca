use Rattle.asn_link_closed.proofs.NamesLeft.{closed_definitions_close}
use Rattle.asn_link_closed.proofs.laws.closed_definitions_close.Goals as goal

pub returns : goal.returns
returns c = closed_definitions_close c.names_that_stay.ensures
