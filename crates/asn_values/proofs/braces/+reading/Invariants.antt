use Rattle.std.proofs.Common.{◌≡◌, drop}
use Rattle.asn_rules.specs.Nodes.{at_children}
use Rattle.asn_rules.specs.declared.names.TheConstants.{STRUCT_ITEM}
use Rattle.asn_read_nodes.proofs.Equations.{behind}
use Rattle.asn_read_nodes.specs.Parts.{all_some}
use Rattle.asn_values.specs.Braces.{item_of}
use Rattle.asn_values.proofs.braces.+reading.Given as goal

abbrev pub invariant-read_items-loop-node : goal.invariant-read_items-loop-node
invariant-read_items-loop-node l = behind l.items (all_some (at_children (drop l.node-index l.nodes) STRUCT_ITEM (item_of l.text))) ≡ all_some (at_children l.nodes STRUCT_ITEM (item_of l.text))
