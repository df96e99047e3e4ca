use Rattle.std.proofs.Common.{◌≡◌, drop}
use Rattle.asn_read_nodes.proofs.Equations.{behind}
use Rattle.asn_read_nodes.specs.Bits.{names_in}
use Rattle.asn_read_nodes.proofs.bits.names_of.Given as goal

abbrev pub invariant-loop-node : goal.invariant-loop-node
invariant-loop-node l = behind l.found (names_in l.text (drop l.node-index l.nodes)) ≡ names_in l.text l.nodes
