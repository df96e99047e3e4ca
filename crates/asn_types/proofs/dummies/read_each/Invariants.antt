use Rattle.std.proofs.Common.{◌≡◌, drop}
use Rattle.asn_read_nodes.proofs.Equations.{behind}
use Rattle.asn_types.specs.Dummies.{dummies_in}
use Rattle.asn_types.proofs.dummies.read_each.Given as goal

abbrev pub invariant-loop-node : goal.invariant-loop-node
invariant-loop-node l = behind l.dummies (dummies_in l.text (drop l.node-index l.nodes)) ≡ dummies_in l.text l.nodes
