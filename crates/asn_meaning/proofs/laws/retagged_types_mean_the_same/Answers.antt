use Rattle.asn_meaning.proofs.AlikeSteps.{retagged_means}
use Rattle.asn_meaning.proofs.laws.retagged_types_mean_the_same.Goals as goal

pub returns : goal.returns
returns c = retagged_means
