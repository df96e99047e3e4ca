use Rattle.asn_tree_tagging.proofs.EnvironmentSums.{add_up}
use Rattle.asn_tree_tagging.proofs.laws.environments_add_up.Goals as goal

pub returns : goal.returns
returns c = add_up
