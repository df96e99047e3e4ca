use Rattle.std.proofs.Common.{◌≡◌, drop}
use Rattle.asn_rules.specs.Nodes.{at_children}
use Rattle.asn_rules.specs.declared.names.TheConstants.{SYNTAX_ITEM}
use Rattle.asn_read_nodes.proofs.Equations.{behind}
use Rattle.asn_read_nodes.specs.Parts.{all_some}
use Rattle.asn_read_pieces.specs.Syntax.{part_of}
use Rattle.asn_read_pieces.proofs.syntax.+reading.Given as goal

abbrev pub invariant-read_each-loop-node : goal.invariant-read_each-loop-node
invariant-read_each-loop-node l = behind l.parts (all_some (at_children (drop l.node-index l.nodes) SYNTAX_ITEM (part_of l.text))) ≡ all_some (at_children l.nodes SYNTAX_ITEM (part_of l.text))
