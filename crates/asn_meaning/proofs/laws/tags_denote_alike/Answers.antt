use Rattle.asn_meaning.proofs.AlikeSteps.{known_alike}
use Rattle.asn_meaning.proofs.laws.tags_denote_alike.Goals as goal

pub returns : goal.returns
returns c = λ defs others seen n. (known_alike defs others seen n).denotes
