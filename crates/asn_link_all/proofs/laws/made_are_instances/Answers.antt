use Rattle.asn_link_all.proofs.Instances.{made_are_instances}
use Rattle.asn_link_all.proofs.laws.made_are_instances.Goals as goal

pub returns : goal.returns
returns c = made_are_instances c.unchanged_are_own_instances.ensures c.literals_steady.ensures c.more_levels.ensures
