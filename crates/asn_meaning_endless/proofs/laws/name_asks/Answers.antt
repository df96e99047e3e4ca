use Rattle.asn_meaning_endless.proofs.Asking.{name_asks}
use Rattle.asn_meaning_endless.proofs.laws.name_asks.Goals as goal

pub returns : goal.returns
returns c = name_asks
