use Rattle.asn_meaning.proofs.AlikeSteps.{known_alike}
use Rattle.asn_meaning.proofs.laws.tags_lead_alike.Goals as goal

pub returns : goal.returns
returns c = λ defs others seen n p q k. ((known_alike defs others seen n).head p q k, (known_alike defs others seen n).fits p q k)
