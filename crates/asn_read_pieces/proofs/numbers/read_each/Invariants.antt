use Rattle.std.proofs.Common.{◌≡◌, drop}
use Rattle.asn_read_nodes.proofs.Equations.{behind}
use Rattle.asn_read_pieces.specs.Numbers.{distinguished_in}
use Rattle.asn_read_pieces.proofs.numbers.read_each.Given as goal

abbrev pub invariant-loop-node : goal.invariant-loop-node
invariant-loop-node l = behind l.values (distinguished_in l.text (drop l.node-index l.nodes)) ≡ distinguished_in l.text l.nodes
