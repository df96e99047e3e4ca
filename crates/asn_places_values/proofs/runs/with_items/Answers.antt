use Rattle.std.proofs.Common.{◌<◌, ◌≤◌, arith, length}
use Rattle.asn_needs.specs.PartsOfValues.{inside, item_type}
use Rattle.asn_meaning_shapes.specs.Members.{shown_members}
use Rattle.asn_places_types.proofs.Adding.{map_next, map_done}
use Rattle.asn_places_types.specs.Sites.{shown_around, shown_sites}
use Rattle.asn_places_values.proofs.runs.with_items.Goals as goal

pub loop-item-preserved : goal.loop-item-preserved
loop-item-preserved c =
    let lt : c.loop-item.item-index < length c.args.items.now = omega arith in
    map_next (λ x. inside (shown_around c.args.around.now.value) (item_type (shown_members c.args.members.now) x.0) x.1) c.args.items.now c.loop-item.item-index c.item-item.result
    (shown_sites c.loop-item.sites) lt c.item-item.is c.loop-item.invariant c.in_ok-sites.ensures

pub returns : goal.returns
returns c =
    let le : length c.args.items.now ≤ c.loop-item.item-index = omega arith in
    map_done (λ x. inside (shown_around c.args.around.now.value) (item_type (shown_members c.args.members.now) x.0) x.1) c.args.items.now c.loop-item.item-index le c.loop-item.invariant
