use Rattle.asn_meaning_endless.proofs.Including.{includes_memberless}
use Rattle.asn_meaning_endless.proofs.laws.includes_memberless.Goals as goal

pub returns : goal.returns
returns c = includes_memberless
