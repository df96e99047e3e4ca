use Rattle.std.proofs.Common.{refl}
use Rattle.asn_read_nodes.proofs.Views.{node_at_ends, node_at_is}
use Rattle.asn_read_nodes.proofs.entry.node_at.Goals as goal

pub returns-in-Ok-clause-derives : goal.returns-in-Ok-clause-derives
returns-in-Ok-clause-derives c =
    let d = rw c.new.ensures at c.in-Ok.ensures.derives in
    node_at_ends c.args.text.now c.args.rule c.args.offset d.0 c.in-Ok.node d.1

pub returns-in-Ok-clause-is : goal.returns-in-Ok-clause-is
returns-in-Ok-clause-is c =
    let d = rw c.new.ensures at c.in-Ok.ensures.derives in
    node_at_is c.args.text.now c.args.rule c.args.offset d.0 c.in-Ok.node d.1 (c.in-Ok.ensures.within refl)
