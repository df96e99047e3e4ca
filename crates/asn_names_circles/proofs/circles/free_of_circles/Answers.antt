use Rattle.std.proofs.Common.{ap, length, map, subst, sym, ◌∙◌, arith}
use Rattle.std.proofs.lemmas.List.{length-map}
use Rattle.std.proofs.lemmas.Simd.{map-map}
use Rattle.asn_tree.specs.Calls.{name_of}
use Rattle.asn_names_graph.specs.Reach.{AreFree}
use Rattle.asn_names_circles.specs.Circles.{FreeAre, leading, templates_among}
use Rattle.asn_names_circles.proofs.Circling.{as_many, drawn_as, free_are}
use Rattle.asn_names_circles.proofs.Needed.{names_ascend, names_through, zip_long}
use Rattle.asn_names_graph.specs.Drawn.{Ascend}
use Rattle.asn_names_references.specs.References.{references_of}
use Rattle.asn_names_circles.proofs.circles.free_of_circles.Goals as goal

pub components_of-requires-clause-ascend : goal.components_of-requires-clause-ascend
components_of-requires-clause-ascend c =
    subst Ascend (sym (ap (map (λ n. n.now)) c.as_slice-2.ensures ∙ c.in_ok-all.ensures)) (names_ascend (λ d. d.now) c.args.names.now.definitions.now c.args.standing.now c.requires)

pub components_of-requires-clause-long : goal.components_of-requires-clause-long
components_of-requires-clause-long c =
    as_many (map (λ n. n.now)) (λ n. n.now) c.as_slice-3.result.now c.as_slice-2.result.now c.args.standing.now
    (λ x. templates_among c.args.names.now.definitions.now (references_of x.now)) (λ x. name_of x.now)
    (ap (map (map (λ n. n.now))) c.as_slice-3.ensures ∙ c.in_ok-templates.ensures
    ∙ ap (map (templates_among c.args.names.now.definitions.now)) (ap (map (map (λ n. n.now))) c.as_slice.ensures ∙ c.in_ok-mentions.ensures)
    ∙ map-map (templates_among c.args.names.now.definitions.now) references_of (map (λ d. d.now) c.args.standing.now)
    ∙ map-map (λ d. templates_among c.args.names.now.definitions.now (references_of d)) (λ d. d.now) c.args.standing.now)
    (ap (map (λ n. n.now)) c.as_slice-2.ensures ∙ c.in_ok-all.ensures)

pub components_of-requires-2-clause-ascend : goal.components_of-requires-2-clause-ascend
components_of-requires-2-clause-ascend c =
    subst Ascend (sym (ap (map (λ n. n.now)) c.as_slice-4.ensures ∙ c.in_ok-all.ensures)) (names_ascend (λ d. d.now) c.args.names.now.definitions.now c.args.standing.now c.requires)

pub components_of-requires-2-clause-long : goal.components_of-requires-2-clause-long
components_of-requires-2-clause-long c =
    as_many (map (λ n. n.now)) (λ n. n.now) c.as_slice-5.result.now c.as_slice-4.result.now c.args.standing.now (λ x. references_of x.now) (λ x. name_of x.now)
    (ap (map (map (λ n. n.now))) c.as_slice-5.ensures ∙ c.in_ok-mentions.ensures ∙ map-map references_of (λ d. d.now) c.args.standing.now)
    (ap (map (λ n. n.now)) c.as_slice-4.ensures ∙ c.in_ok-all.ensures)

pub components_of-requires-3-clause-ascend : goal.components_of-requires-3-clause-ascend
components_of-requires-3-clause-ascend c =
    subst Ascend (sym (ap (map (λ n. n.now)) c.as_slice-6.ensures ∙ c.in_ok-all.ensures)) (names_ascend (λ d. d.now) c.args.names.now.definitions.now c.args.standing.now c.requires)

pub components_of-requires-3-clause-long : goal.components_of-requires-3-clause-long
components_of-requires-3-clause-long c =
    as_many (map (λ n. n.now)) (λ n. n.now) c.as_slice-7.result.now c.as_slice-6.result.now c.args.standing.now (λ x. leading c.args.names.now.definitions.now x.now) (λ x. name_of x.now)
    (ap (map (map (λ n. n.now))) c.as_slice-7.ensures ∙ c.in_ok-leading.ensures ∙ map-map (leading c.args.names.now.definitions.now) (λ d. d.now) c.args.standing.now)
    (ap (map (λ n. n.now)) c.as_slice-6.ensures ∙ c.in_ok-all.ensures)

pub circular-requires-clause-on : goal.circular-requires-clause-on
circular-requires-clause-on c =
    drawn_as c.in_ok-on.on.edges
    (ap (map (λ n. n.now)) c.as_slice-6.ensures ∙ c.in_ok-all.ensures ∙ sym (names_through (λ d. d.now) c.args.names.now.definitions.now c.args.standing.now c.requires))
    (ap (map (map (λ n. n.now))) c.as_slice-7.ensures ∙ c.in_ok-leading.ensures)
    c.in_ok-on.ensures

pub circular-requires-clause-named : goal.circular-requires-clause-named
circular-requires-clause-named c =
    ap (map (λ n. n.now)) c.as_slice-8.ensures ∙ c.in_ok-all.ensures ∙ sym (names_through (λ d. d.now) c.args.names.now.definitions.now c.args.standing.now c.requires)

pub circular-requires-clause-templates : goal.circular-requires-clause-templates
circular-requires-clause-templates c =
    drawn_as c.in_ok-through_templates.through_templates.edges
    (ap (map (λ n. n.now)) c.as_slice-2.ensures ∙ c.in_ok-all.ensures ∙ sym (names_through (λ d. d.now) c.args.names.now.definitions.now c.args.standing.now c.requires))
    (ap (map (map (λ n. n.now))) c.as_slice-3.ensures ∙ c.in_ok-templates.ensures
    ∙ ap (map (templates_among c.args.names.now.definitions.now)) (ap (map (map (λ n. n.now))) c.as_slice.ensures ∙ c.in_ok-mentions.ensures)
    ∙ map-map (templates_among c.args.names.now.definitions.now) references_of (map (λ d. d.now) c.args.standing.now))
    c.in_ok-through_templates.ensures

pub circular-requires-clause-drawn : goal.circular-requires-clause-drawn
circular-requires-clause-drawn c =
    drawn_as c.in_ok-components.components.edges
    (ap (map (λ n. n.now)) c.as_slice-4.ensures ∙ c.in_ok-all.ensures ∙ sym (names_through (λ d. d.now) c.args.names.now.definitions.now c.args.standing.now c.requires))
    (ap (map (map (λ n. n.now))) c.as_slice-5.ensures ∙ c.in_ok-mentions.ensures)
    c.in_ok-components.ensures

pub free_nodes-requires : goal.free_nodes-requires
free_nodes-requires c =
    let drawn = drawn_as c.in_ok-components.components.edges
    (ap (map (λ n. n.now)) c.as_slice-4.ensures ∙ c.in_ok-all.ensures ∙ sym (names_through (λ d. d.now) c.args.names.now.definitions.now c.args.standing.now c.requires))
    (ap (map (map (λ n. n.now))) c.as_slice-5.ensures ∙ c.in_ok-mentions.ensures)
    c.in_ok-components.ensures in
    let ds = map (λ d. d.now) c.args.standing.now in
    let names = length-map ds name_of in
    let lists = length-map ds references_of in
    let told = zip_long _ _ c.in_ok-circular.circular c.in_ok-circular.ensures in
    let long = drawn.long in
    let same = ap length c.as_slice-9.ensures in
    omega (arith, names, lists, told, long, same)

pub returns : goal.returns
returns c =
    let ds = map (λ d. d.now) c.args.standing.now in
    let defs = c.args.names.now.definitions.now in
    let drawn = drawn_as c.in_ok-components.components.edges
    (ap (map (λ n. n.now)) c.as_slice-4.ensures ∙ c.in_ok-all.ensures ∙ sym (names_through (λ d. d.now) defs c.args.standing.now c.requires))
    (ap (map (map (λ n. n.now))) c.as_slice-5.ensures ∙ c.in_ok-mentions.ensures)
    c.in_ok-components.ensures in
    subst (λ ns. FreeAre defs ns c.in_ok-free.free) (names_through (λ d. d.now) defs c.args.standing.now c.requires)
    (free_are defs ds c.requires c.in_ok-components.components.edges c.in_ok-circular.circular c.in_ok-free.free c.in_ok-circular.ensures drawn
    (subst (λ bs. AreFree c.in_ok-components.components.edges bs c.in_ok-free.free) c.as_slice-9.ensures c.in_ok-free.ensures))
