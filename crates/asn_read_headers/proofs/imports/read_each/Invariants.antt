use Rattle.std.proofs.Common.{◌≡◌, drop}
use Rattle.asn_read_nodes.proofs.Equations.{behind}
use Rattle.asn_read_headers.specs.Imports.{imports_among}
use Rattle.asn_read_headers.proofs.imports.read_each.Given as goal

abbrev pub invariant-loop-node : goal.invariant-loop-node
invariant-loop-node l = behind l.imports (imports_among l.text (drop l.node-index l.nodes)) ≡ imports_among l.text l.nodes
