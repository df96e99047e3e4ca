use Rattle.std.proofs.Common.{ap, ◌∙◌}
use Rattle.asn_rules.specs.Nodes.{nth_among}
use Rattle.asn_rules.proofs.Children.{nth_stands}
use Rattle.asn_rules.proofs.node.Node.nth_child.Goals as goal

pub returns-clause-stands : goal.returns-clause-stands
returns-clause-stands c = λ table text by. nth_stands table text c.args.self.now c.args.rule c.args.before c.nth_of.result (c.nth_of.ensures ∙ ap (λ ns. nth_among ns c.args.rule c.args.before) c.as_slice.ensures) by
