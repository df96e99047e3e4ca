use Rattle.std.proofs.Common.{rules}
use Rattle.asn_rules.specs.declared.names.TheConstants.{ASN_MODULE}
use Rattle.asn_modules.specs.Modules.{module_of}
use Rattle.asn_read_nodes.proofs.Equations.{passes_next, takes_next}
use Rattle.asn_modules.proofs.modules.read_modules.Goals as goal
use Rattle.asn_modules.proofs.modules.read_modules.Goals.{then-node+in_ok-read_module+in_ok-add, else-node}

pub loop-node-preserved : goal.loop-node-preserved
loop-node-preserved c =
    let read = module_of c.args.text.now in
    let i = c.loop-node.node-index in
    elim c.if-node.branch [
      | then-node+in_ok-read_module+in_ok-add w ↦ takes_next ASN_MODULE read c.args.nodes.now i c.node-item.result _ c.loop-node.modules c.if-node.modules _ c.loop-node-test.true c.node-item.is (search rules) w.in_ok-read_module.ensures (search rules) c.loop-node.invariant
      | else-node w ↦ passes_next ASN_MODULE read c.args.nodes.now i c.node-item.result c.loop-node.modules c.if-node.modules _ c.loop-node-test.true c.node-item.is (search rules) w.modules-is c.loop-node.invariant
    ]
