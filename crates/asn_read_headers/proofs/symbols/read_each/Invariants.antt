use Rattle.std.proofs.Common.{◌≡◌, drop}
use Rattle.asn_read_nodes.proofs.Equations.{behind}
use Rattle.asn_read_headers.specs.Symbols.{symbols_in}
use Rattle.asn_read_headers.proofs.symbols.read_each.Given as goal

abbrev pub invariant-loop-node : goal.invariant-loop-node
invariant-loop-node l = behind l.symbols (symbols_in l.text (drop l.node-index l.nodes)) ≡ symbols_in l.text l.nodes
