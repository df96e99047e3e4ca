use Rattle.asn_calls.proofs.TypeOrder.{is_least}
use Rattle.asn_calls.proofs.laws.max_restrictive_is_least.Goals as goal

pub returns : goal.returns
returns c = is_least
