use Rattle.asn_rules.proofs.Children.{first_stands}
use Rattle.asn_rules.proofs.node.Node.first_child.Goals as goal

pub returns-clause-stands : goal.returns-clause-stands
returns-clause-stands c = λ table text by. first_stands table text c.args.self.now c.first_found.result.now c.first_found.ensures.value by
