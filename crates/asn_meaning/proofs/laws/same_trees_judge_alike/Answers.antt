use Rattle.asn_meaning.proofs.SameJudged.{judged_same}
use Rattle.asn_meaning.proofs.laws.same_trees_judge_alike.Goals as goal

pub returns : goal.returns
returns c = judged_same
