use Rattle.asn_link_instance.proofs.MoreLevels.{more_levels}
use Rattle.asn_link_instance.proofs.laws.more_levels.Goals as goal

pub returns : goal.returns
returns c = more_levels
