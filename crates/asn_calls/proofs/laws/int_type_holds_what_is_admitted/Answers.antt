use Rattle.asn_calls.proofs.HeldNumbers.{are_within}
use Rattle.asn_calls.proofs.laws.int_type_holds_what_is_admitted.Goals as goal

pub returns : goal.returns
returns c = are_within
