use Rattle.std.proofs.Common.{rules}
use Rattle.asn_rules.specs.declared.names.TheConstants.{IMPORT}
use Rattle.asn_read_nodes.proofs.Equations.{passes_next, takes_next}
use Rattle.asn_read_headers.specs.Imports.{import_of}
use Rattle.asn_read_headers.proofs.imports.read_each.Goals as goal
use Rattle.asn_read_headers.proofs.imports.read_each.Goals.{then-node+in_ok-read_import+in_ok-add, else-node}

pub loop-node-preserved : goal.loop-node-preserved
loop-node-preserved c =
    let read = import_of c.args.text.now in
    let i = c.loop-node.node-index in
    elim c.if-node.branch [
      | then-node+in_ok-read_import+in_ok-add w ↦ takes_next IMPORT read c.args.nodes.now i c.node-item.result _ c.loop-node.imports c.if-node.imports _ c.loop-node-test.true c.node-item.is (search rules) w.in_ok-read_import.ensures (search rules) c.loop-node.invariant
      | else-node w ↦ passes_next IMPORT read c.args.nodes.now i c.node-item.result c.loop-node.imports c.if-node.imports _ c.loop-node-test.true c.node-item.is (search rules) w.imports-is c.loop-node.invariant
    ]
