use Rattle.std.proofs.Common.{ap, map, ◌∙◌}
use Rattle.std.specs.Prelude.{not}
use Rattle.asn_names_graph.proofs.Reaching.{free_left}
use Rattle.asn_names_graph.proofs.reach.free_nodes.Goals as goal

pub returns : goal.returns
returns c =
    free_left c.args.components.now.edges c.args.marked.now c.in_ok-leading.leading.items c.in_ok-free.free c.in_ok-leading.ensures
    (c.in_ok-free.ensures ∙ ap (map not) c.as_slice.ensures.value)
