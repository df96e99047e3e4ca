use Rattle.std.proofs.Common.{◌≡◌, drop}
use Rattle.asn_read_nodes.proofs.Equations.{behind}
use Rattle.asn_read_pieces.specs.Fields.{path_names_in}
use Rattle.asn_read_pieces.proofs.fields.read_names.Given as goal

abbrev pub invariant-loop-node : goal.invariant-loop-node
invariant-loop-node l = behind l.found (path_names_in l.text (drop l.node-index l.nodes)) ≡ path_names_in l.text l.nodes
