use Rattle.std.proofs.Common.{◌≡◌, arith, length, map}
use Rattle.std.proofs.lemmas.List.{length-map}
use Rattle.asn_names_graph.proofs.Added.{edges_to_nodes}
use Rattle.asn_names_circles.proofs.drawing.components_of.Goals as goal

pub finished-requires : goal.finished-requires
finished-requires c =
    let names : length (map (λ n. n.now) c.args.names.now) ≡ length c.args.names.now = length-map c.args.names.now (λ n. n.now) in
    let lists : length (map (map (λ n. n.now)) c.args.lists.now) ≡ length c.args.lists.now = length-map c.args.lists.now (map (λ n. n.now)) in
    edges_to_nodes (map (λ n. n.now) c.args.names.now) (map (map (λ n. n.now)) c.args.lists.now) c.in_ok-builder.builder (omega (arith, names, lists, c.requires.long)) c.in_ok-builder.ensures
