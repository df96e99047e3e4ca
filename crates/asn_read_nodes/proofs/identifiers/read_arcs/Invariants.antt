use Rattle.std.proofs.Common.{◌≡◌, drop}
use Rattle.asn_read_nodes.proofs.Equations.{behind}
use Rattle.asn_read_nodes.specs.Identifiers.{arcs_in}
use Rattle.asn_read_nodes.proofs.identifiers.read_arcs.Given as goal

abbrev pub invariant-loop-node : goal.invariant-loop-node
invariant-loop-node l = behind l.arcs (arcs_in l.text (drop l.node-index l.nodes)) ≡ arcs_in l.text l.nodes
