use Rattle.asn_rules.proofs.Children.{found_stands}
use Rattle.asn_rules.proofs.node.Node.child.Goals as goal

pub returns-clause-stands : goal.returns-clause-stands
returns-clause-stands c = λ table text by_row. found_stands table text c.args.self.now c.args.rule c.found.result c.found.ensures.value by_row
