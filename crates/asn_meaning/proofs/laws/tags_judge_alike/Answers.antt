use Rattle.asn_meaning.proofs.AlikeSteps.{judged_alike}
use Rattle.asn_meaning.proofs.laws.tags_judge_alike.Goals as goal

pub returns : goal.returns
returns c = judged_alike
