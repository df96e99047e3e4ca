use Rattle.std.proofs.Common.{ap, map, ◌∙◌}
use Rattle.asn_link_closed.proofs.Told.{as_many, closed_told, names_up}
use Rattle.asn_link_closed.proofs.closing.closed_definitions.Goals as goal

pub graph_of-requires-clause-ascending : goal.graph_of-requires-clause-ascending
graph_of-requires-clause-ascending c =
    names_up (λ d. d.now) c.args.names.now.definitions.now c.args.standing.now c.requires.standing (map (λ n. n.now) c.as_slice.result.now)
    (ap (map (λ n. n.now)) c.as_slice.ensures ∙ c.in_ok-all.ensures)

pub free_nodes-requires : goal.free_nodes-requires
free_nodes-requires c =
    as_many (λ d. d.now) c.args.names.now.definitions.now c.args.standing.now c.requires.standing c.args.made.now (map (λ n. n.now) c.as_slice.result.now)
    c.in_ok-graph.graph c.in_ok-components.components.edges c.as_slice-2.result.now c.requires.long c.in_ok-graph.ensures c.in_ok-components.ensures
    (c.as_slice-2.ensures.value ∙ c.in_ok-open.ensures)

pub returns : goal.returns
returns c =
    closed_told (λ d. d.now) c.args.names.now.definitions.now c.args.standing.now c.requires.standing c.args.made.now (map (λ n. n.now) c.as_slice.result.now)
    c.in_ok-graph.graph c.in_ok-components.components.edges c.as_slice-2.result.now c.in_ok-closed.closed
    (ap (map (λ n. n.now)) c.as_slice.ensures ∙ c.in_ok-all.ensures) c.in_ok-graph.ensures c.in_ok-components.ensures
    (c.as_slice-2.ensures.value ∙ c.in_ok-open.ensures) c.in_ok-closed.ensures
