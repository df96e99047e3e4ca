use Rattle.std.proofs.Common.{map, sym, ◌∙◌}
use Rattle.std.proofs.lemmas.List.{length-map}
use Rattle.asn_names_graph.proofs.Added.{edges_to_nodes}
use Rattle.asn_link_closed.specs.Closed.{left_in}
use Rattle.asn_link_closed.proofs.drawing.graph_of.Goals as goal

pub finished-requires : goal.finished-requires
finished-requires c =
    edges_to_nodes (map (λ n. n.now) c.args.names.now) (map left_in c.args.made.now) c.in_ok-builder.builder
    (length-map c.args.names.now (λ n. n.now) ∙ c.requires.long ∙ sym (length-map c.args.made.now left_in)) c.in_ok-builder.ensures
