use Rattle.std.proofs.Common.{◌≡◌, ◌<◌, ◌≤◌, ◌++◌, arith, length, map}
use Rattle.asn_meaning_heads.specs.Places.{shown_place}
use Rattle.asn_places_types.proofs.Adding.{map_next, map_done}
use Rattle.asn_places_types.proofs.surroundings.with_places.Goals as goal

pub loop-other-preserved : goal.loop-other-preserved
loop-other-preserved c =
    let lt : c.loop-other.other-index < length c.args.others.now = omega arith in
    map_next (shown_place) c.args.others.now c.loop-other.other-index c.other-item.result (map shown_place c.loop-other.places) lt c.other-item.is c.loop-other.invariant c.in_ok-places.ensures

pub returns : goal.returns
returns c =
    let le : length c.args.others.now ≤ c.loop-other.other-index = omega arith in
    map_done (shown_place) c.args.others.now c.loop-other.other-index le c.loop-other.invariant
