use Rattle.asn_read_nodes.proofs.EnumeratedItems.{numbers_fit_here}
use Rattle.asn_read_nodes.proofs.items.enumerated_numbers_fit.Goals as goal

pub returns : goal.returns
returns c text n root added is told pass = numbers_fit_here text n root added is told pass
