use Rattle.std.proofs.Common.{◌≡◌, drop}
use Rattle.asn_read_nodes.proofs.Equations.{behind}
use Rattle.asn_read_pieces.specs.Settings.{settings_in}
use Rattle.asn_read_pieces.proofs.settings.read_each.Given as goal

abbrev pub invariant-loop-node : goal.invariant-loop-node
invariant-loop-node l = behind l.settings (settings_in l.text (drop l.node-index l.nodes)) ≡ settings_in l.text l.nodes
