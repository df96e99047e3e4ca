use Rattle.std.proofs.Common.{◌≡◌, ap, length, map, refl, subst, ◌∙◌, arith}
use Rattle.std.proofs.lemmas.List.{length-map}
use Rattle.asn_names_graph.specs.Reach.{AreFree}
use Rattle.asn_names_circles.specs.Circles.{is_asking, templates_among}
use Rattle.asn_names_circles.proofs.Circling.{gentle_told}
use Rattle.asn_names_references.specs.References.{references_of}
use Rattle.asn_names_circles.proofs.circles.gentle_nodes.Goals as goal

pub free_nodes-requires : goal.free_nodes-requires
free_nodes-requires c =
    let ds = map (λ d. d.now) c.args.standing.now in
    let asking : length c.as_slice.result.now ≡ length ds = ap length (c.as_slice.ensures ∙ c.in_ok-asking.ensures) ∙ length-map ds (is_asking c.args.index.now.definitions.now) in
    let lists = length-map ds (λ d. templates_among c.args.index.now.definitions.now (references_of d)) in
    let long = c.requires.drawn.long in
    omega (arith, asking, lists, long)

pub returns : goal.returns
returns c =
    gentle_told c.args.index.now.definitions.now (map (λ d. d.now) c.args.standing.now) c.requires.standing c.args.templates.now.edges _ c.in_ok-asking.asking c.in_ok-gentle.gentle
    refl c.in_ok-asking.ensures c.requires.drawn (subst (λ bs. AreFree c.args.templates.now.edges bs c.in_ok-gentle.gentle) c.as_slice.ensures c.in_ok-gentle.ensures)
