use Rattle.asn_meaning.proofs.AlikeSteps.{environment_retags}
use Rattle.asn_meaning.proofs.laws.environments_change_tags.Goals as goal

pub returns : goal.returns
returns c = environment_retags
