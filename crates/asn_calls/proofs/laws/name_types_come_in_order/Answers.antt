use Rattle.asn_calls.proofs.NamesWithTypes.{in_order}
use Rattle.asn_calls.proofs.laws.name_types_come_in_order.Goals as goal

pub returns : goal.returns
returns c = in_order
