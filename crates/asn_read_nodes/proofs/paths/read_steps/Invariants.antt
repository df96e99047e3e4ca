use Rattle.std.proofs.Common.{◌≡◌, drop}
use Rattle.asn_read_nodes.proofs.Equations.{behind}
use Rattle.asn_read_nodes.specs.Paths.{steps_in}
use Rattle.asn_read_nodes.proofs.paths.read_steps.Given as goal

abbrev pub invariant-loop-node : goal.invariant-loop-node
invariant-loop-node l = behind l.steps (steps_in l.text (drop l.node-index l.nodes)) ≡ steps_in l.text l.nodes
