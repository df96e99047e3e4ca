use Rattle.asn_meaning_heads.specs.Places.{shown_place}
use Rattle.asn_link_passes.proofs.linking.linked.Goals as goal

pub returns : goal.returns
returns c =
    c.instances_promise.ensures c.args.names.now.definitions.now c.args.limits.steps c.args.limits.levels c.args.down (shown_place c.args.place.now).scope (shown_place c.args.place.now).ty c.in_ok-made.made c.in_ok-made.ensures
