use Rattle.asn_names_graph.specs.Graphs.{edges_of}
use Rattle.asn_names_graph.proofs.TablesTold.{told_slice}
use Rattle.asn_names_graph.proofs.components.tell.Goals as goal

pub returns : goal.returns
returns c =
    told_slice (edges_of c.args.starts.now c.args.targets.now) c.args.numbers.now c.args.order.now c.in_ok-free_order.free_order.items c.in_ok-cyclic.cyclic.items c.in_ok-free.free.items c.as_slice.result.now c.requires.graph c.requires.numbered
    c.in_ok-cyclic.ensures.long c.in_ok-cyclic.ensures.told c.in_ok-free.ensures.long c.in_ok-free.ensures.told c.as_slice.ensures.value c.in_ok-free_order.ensures
