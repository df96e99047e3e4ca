use Rattle.std.proofs.Common.{subst, sym}
use Rattle.std.specs.List.{All}
use Rattle.asn_rules.specs.Children.{StandsBy}
use Rattle.asn_rules.specs.Whole.{whole_rules}
use Rattle.asn_read_nodes.proofs.Views.{each_stands}
use Rattle.asn_read_nodes.proofs.names.children.Goals as goal

pub returns-clause-stand : goal.returns-clause-stand
returns-clause-stand c = subst (All (StandsBy whole_rules c.args.text.now)) (sym c.as_slice.ensures) (each_stands c.args.text.now c.args.node.now c.requires)
