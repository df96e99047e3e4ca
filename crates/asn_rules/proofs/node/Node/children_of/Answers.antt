use Rattle.asn_rules.proofs.Children.{all_are}
use Rattle.asn_rules.proofs.node.Node.children_of.Goals as goal

pub returns-clause-stands : goal.returns-clause-stands
returns-clause-stands c = λ table text by. all_are table text c.args.self.now c.args.rule by
