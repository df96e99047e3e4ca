use Rattle.asn_check.proofs.OnlyOrder.{one_list}
use Rattle.asn_check.proofs.laws.one_list_of_warnings.Goals as goal

pub returns : goal.returns
returns c = one_list
