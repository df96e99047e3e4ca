use Rattle.asn_meaning_endless.proofs.Arriving.{arrival_once_round}
use Rattle.asn_meaning_endless.proofs.laws.arrival_once_round.Goals as goal

pub returns : goal.returns
returns c = arrival_once_round
