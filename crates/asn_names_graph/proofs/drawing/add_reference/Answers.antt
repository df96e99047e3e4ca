use Rattle.std.proofs.Common.{map}
use Rattle.asn_names_graph.proofs.Added.{edge_added}
use Rattle.asn_names_graph.proofs.drawing.add_reference.Goals as goal

pub returns-in_ok-add_edge-in-Some : goal.returns-in_ok-add_edge-in-Some
returns-in_ok-add_edge-in-Some c =
    let added = c.in_ok-add_edge-in-Some.ensures in
    edge_added (map (λ n. n.now) c.args.names.now) c.args.name.now c.in-Some.place c.args.builder.now c.add_edge.new.self
    c.requires.ascending c.in-Some.ensures.found added.same added.edges
