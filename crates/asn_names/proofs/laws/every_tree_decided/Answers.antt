use Rattle.asn_names.proofs.Decided.{every_decided}
use Rattle.asn_names.proofs.laws.every_tree_decided.Goals as goal

pub returns : goal.returns
returns c = λ defs basic d b types h heights ty is t. every_decided defs basic d types h heights b ty is t
