use Rattle.std.proofs.Common.{◌≡◌, drop}
use Rattle.asn_read_nodes.proofs.Equations.{behind}
use Rattle.asn_read_pieces.specs.Fields.{fields_in}
use Rattle.asn_read_pieces.proofs.fields.read_steps.Given as goal

abbrev pub invariant-loop-node : goal.invariant-loop-node
invariant-loop-node l = behind l.fields (fields_in l.text (drop l.node-index l.nodes)) ≡ fields_in l.text l.nodes
