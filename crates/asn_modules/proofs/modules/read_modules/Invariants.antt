use Rattle.std.proofs.Common.{◌≡◌, drop}
use Rattle.asn_read_nodes.proofs.Equations.{behind}
use Rattle.asn_modules.specs.Modules.{modules_in}
use Rattle.asn_modules.proofs.modules.read_modules.Given as goal

abbrev pub invariant-loop-node : goal.invariant-loop-node
invariant-loop-node l = behind l.modules (modules_in l.text (drop l.node-index l.nodes)) ≡ modules_in l.text l.nodes
