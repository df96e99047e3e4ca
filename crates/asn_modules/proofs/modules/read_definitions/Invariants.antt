use Rattle.std.proofs.Common.{◌≡◌, drop}
use Rattle.asn_read_nodes.proofs.Equations.{behind}
use Rattle.asn_modules.specs.Modules.{definitions_in}
use Rattle.asn_modules.proofs.modules.read_definitions.Given as goal

abbrev pub invariant-loop-node : goal.invariant-loop-node
invariant-loop-node l = behind l.definitions (definitions_in l.text (drop l.node-index l.nodes)) ≡ definitions_in l.text l.nodes
