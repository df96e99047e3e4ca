use Rattle.std.proofs.Common.{◌∙◌, ap, length, map, subst}
use Rattle.std.specs.Prelude.{is_some}
use Rattle.std.proofs.lemmas.List.{length-map}
use Rattle.asn_link_all.specs.Linked.{AreLinkedTypes}
use Rattle.asn_link.specs.Linked.{linked_each, most_levels, most_steps}
use Rattle.asn_link.proofs.Long.{types_long}
use Rattle.asn_link.proofs.Making.{is_linking}
use Rattle.asn_link.proofs.linking.link_definitions.Goals as goal

pub linked_each-requires-clause-tags : goal.linked_each-requires-clause-tags
linked_each-requires-clause-tags c = ap length c.as_slice-tags.ensures ∙ (types_long c.in_ok-types.ensures).of_tags ∙ length-map c.args.standing.now (λ d. d.now)

pub linked_each-requires-clause-made : goal.linked_each-requires-clause-made
linked_each-requires-clause-made c = ap length c.as_slice.ensures ∙ (types_long c.in_ok-types.ensures).of_made ∙ length-map c.args.standing.now (λ d. d.now)

pub returns : goal.returns
returns c =
    let defs = c.args.names.now.definitions.now in
    let ds = map (λ d. d.now) c.args.standing.now in
    let types = c.in_ok-types.types in
    let limits = c.limits.result in
    let withheld = c.args.withheld.now in
    is_linking defs ds c.requires.stand withheld types.made types.tags types.closed
    (subst (λ i. AreLinkedTypes defs most_steps most_levels i ds withheld types.made types.tags types.closed) c.limits.ensures.in_circles
    (subst (λ k. AreLinkedTypes defs most_steps k limits.in_circles ds withheld types.made types.tags types.closed) c.limits.ensures.levels
    (subst (λ n. AreLinkedTypes defs n limits.levels limits.in_circles ds withheld types.made types.tags types.closed) c.limits.ensures.steps c.in_ok-types.ensures)))
    c.in_ok-definitions.definitions c.in_ok-made.made c.closed_of.result
    (c.in_ok-definitions.ensures ∙ ap (λ t. linked_each ds t c.as_slice.result.now) c.as_slice-tags.ensures ∙ ap (linked_each ds types.tags) c.as_slice.ensures)
    (c.in_ok-made.ensures ∙ ap (map is_some) c.as_slice-2.ensures)
    c.closed_of.ensures
