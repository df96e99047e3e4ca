use Rattle.std.proofs.Common.{◌<◌, ◌≤◌, arith, length}
use Rattle.asn_places_types.specs.Sites.{shown_around, shown_sites}
use Rattle.asn_needs.specs.PartsOfObjects.{item_sites}
use Rattle.asn_places_types.specs.Forms.{shown_of_class}
use Rattle.asn_places_types.proofs.Adding.{each_done, each_next}
use Rattle.asn_places_objects.proofs.sets.with_items.Goals as goal

pub loop-item-preserved : goal.loop-item-preserved
loop-item-preserved c =
    let lt : c.loop-item.item-index < length c.args.items.now = omega arith in
    each_next (item_sites (shown_around c.args.around.now.value) (shown_of_class c.args.class)) c.args.items.now c.loop-item.item-index c.item-item.result (shown_sites c.loop-item.sites) lt c.item-item.is c.loop-item.invariant c.in_ok-sites.ensures

pub returns : goal.returns
returns c =
    let le : length c.args.items.now ≤ c.loop-item.item-index = omega arith in
    each_done (item_sites (shown_around c.args.around.now.value) (shown_of_class c.args.class)) c.args.items.now c.loop-item.item-index le c.loop-item.invariant
