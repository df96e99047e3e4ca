use Rattle.std.proofs.Common.{◌∙◌, ap, length, map, subst, sym}
use Rattle.std.proofs.lemmas.List.{length-map}
use Rattle.asn_link_closed.specs.Closed.{AreClosed}
use Rattle.asn_link_all.proofs.Instances.{each_long, linked_so, made_long, told_long}
use Rattle.asn_link_all.proofs.linked.link_types.Goals as goal

pub ways_of-requires : goal.ways_of-requires
ways_of-requires c =
    told_long (λ d. d.now) c.args.names.now.definitions.now c.args.standing.now c.in_ok-free.free c.as_slice-told.result.now c.args.withheld.now c.in_ok-free.ensures c.as_slice-told.ensures c.requires.long

pub make_types-requires : goal.make_types-requires
make_types-requires c =
    each_long (λ d. d.now) c.args.names.now.definitions.now c.args.standing.now c.in_ok-free.free c.as_slice-told.result.now c.args.withheld.now c.in_ok-free.ensures c.as_slice-told.ensures c.requires.long
    c.in_ok-ways.ways c.as_slice-each.result.now c.in_ok-ways.ensures c.as_slice-each.ensures

pub tag_types-requires : goal.tag_types-requires
tag_types-requires c =
    each_long (λ d. d.now) c.args.names.now.definitions.now c.args.standing.now c.in_ok-free.free c.as_slice-told.result.now c.args.withheld.now c.in_ok-free.ensures c.as_slice-told.ensures c.requires.long
    c.in_ok-ways.ways c.as_slice-each.result.now c.in_ok-ways.ensures c.as_slice-each.ensures

pub closed_definitions-requires-clause-long : goal.closed_definitions-requires-clause-long
closed_definitions-requires-clause-long c =
    let defs = c.args.names.now.definitions.now in
    let standing = c.args.standing.now in
    let long =
    each_long (λ d. d.now) defs standing c.in_ok-free.free c.as_slice-told.result.now c.args.withheld.now c.in_ok-free.ensures c.as_slice-told.ensures c.requires.long
    c.in_ok-ways.ways c.as_slice-each.result.now c.in_ok-ways.ensures c.as_slice-each.ensures in
    sym
    (ap length c.as_slice.ensures
    ∙ ap length c.in_ok-made.ensures
    ∙ made_long defs c.args.limits.steps c.args.limits.levels c.args.limits.in_circles (map (λ d. d.now) standing) c.as_slice-each.result.now (long ∙ sym (length-map standing (λ d. d.now)))
    ∙ length-map standing (λ d. d.now))

pub returns : goal.returns
returns c =
    let defs = c.args.names.now.definitions.now in
    let standing = c.args.standing.now in
    linked_so (λ d. d.now) defs standing c.in_ok-free.free c.as_slice-told.result.now c.args.withheld.now c.in_ok-free.ensures c.as_slice-told.ensures c.requires.long
    c.in_ok-ways.ways c.as_slice-each.result.now c.in_ok-ways.ensures c.as_slice-each.ensures c.args.limits.steps c.args.limits.levels c.args.limits.in_circles
    c.in_ok-closed.closed c.in_ok-made.made c.in_ok-tags.tags c.in_ok-made.ensures c.in_ok-tags.ensures
    (subst (λ made. AreClosed (map (λ d. d.now) standing) made c.in_ok-closed.closed) c.as_slice.ensures c.in_ok-closed.ensures)
