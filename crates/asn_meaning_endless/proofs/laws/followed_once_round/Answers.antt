use Rattle.asn_meaning_endless.proofs.Rounding.{followed_once_round}
use Rattle.asn_meaning_endless.proofs.laws.followed_once_round.Goals as goal

pub returns : goal.returns
returns c = followed_once_round
