use Rattle.asn_read_nodes.proofs.EnumeratedItems.{items_are}
use Rattle.asn_read_nodes.proofs.items.items_are_those_of_bytes.Goals as goal

pub returns : goal.returns
returns c text n is = items_are text n is
