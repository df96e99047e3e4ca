use Rattle.std.proofs.Common.{◌≡◌, ap, length, map, subst, sym, ◌∙◌, arith}
use Rattle.std.proofs.lemmas.List.{length-map}
use Rattle.asn_tree.specs.Calls.{name_of}
use Rattle.asn_names_circles.specs.Circles.{leading}
use Rattle.asn_names_circles.specs.inner.Nodes.{AreCircular}
use Rattle.asn_names_circles.proofs.Circling.{circular_told}
use Rattle.asn_names_circles.proofs.Needed.{zip_long}
use Rattle.asn_names_graph.specs.Drawn.{Ascend}
use Rattle.asn_names_references.specs.References.{references_of}
use Rattle.asn_names_circles.proofs.circles.circular.Goals as goal

pub circular_nodes-requires-clause-ascend : goal.circular_nodes-requires-clause-ascend
circular_nodes-requires-clause-ascend c = subst Ascend (sym c.requires.named) c.requires.standing.ascending

pub circular_nodes-requires-clause-named : goal.circular_nodes-requires-clause-named
circular_nodes-requires-clause-named c =
    sym (length-map c.args.names.now (λ n. n.now)) ∙ ap length c.requires.named ∙ length-map (map (λ d. d.now) c.args.standing.now) name_of ∙ length-map c.args.standing.now (λ d. d.now)

pub circular_nodes-requires-clause-gentle : goal.circular_nodes-requires-clause-gentle
circular_nodes-requires-clause-gentle c =
    ap length c.as_slice.ensures ∙ sym (zip_long _ _ c.in_ok-gentle.gentle c.in_ok-gentle.ensures)
    ∙ length-map (map (λ d. d.now) c.args.standing.now) name_of ∙ length-map c.args.standing.now (λ d. d.now)

pub circular_nodes-requires-clause-long : goal.circular_nodes-requires-clause-long
circular_nodes-requires-clause-long c =
    let ds = map (λ d. d.now) c.args.standing.now in
    let l : length ds ≡ length c.args.standing.now = length-map c.args.standing.now (λ d. d.now) in
    let lists = length-map ds references_of in
    let long = c.requires.drawn.long in
    omega (arith, l, lists, long)

pub circular_nodes-requires-clause-on : goal.circular_nodes-requires-clause-on
circular_nodes-requires-clause-on c =
    let ds = map (λ d. d.now) c.args.standing.now in
    let l : length ds ≡ length c.args.standing.now = length-map c.args.standing.now (λ d. d.now) in
    let lists = length-map ds (leading c.args.index.now.definitions.now) in
    let long = c.requires.on.long in
    omega (arith, l, lists, long)

pub returns : goal.returns
returns c =
    let ds = map (λ d. d.now) c.args.standing.now in
    let on = c.args.on.now.edges in
    let g = c.args.components.now.edges in
    circular_told c.args.index.now.definitions.now ds c.requires.standing g c.requires.drawn on c.in_ok-gentle.gentle c.in_ok-marked.marked
    c.requires.on c.in_ok-gentle.ensures
    (subst (λ bs. AreCircular on g (map name_of ds) ds bs c.in_ok-marked.marked) c.as_slice.ensures
    (subst (λ ns. AreCircular on g ns ds c.as_slice.result.now c.in_ok-marked.marked) c.requires.named c.in_ok-marked.ensures))
