use Rattle.std.proofs.Common.{◌≡◌, ◌<◌, ◌≤◌, ◌++◌, arith, length, map}
use Rattle.asn_places_types.proofs.Adding.{map_next, map_done, name_now}
use Rattle.asn_places_types.proofs.surroundings.with_names.Goals as goal

pub loop-other-preserved : goal.loop-other-preserved
loop-other-preserved c =
    let lt : c.loop-other.other-index < length c.args.others.now = omega arith in
    map_next (name_now) c.args.others.now c.loop-other.other-index c.other-item.result (map (name_now) c.loop-other.names) lt c.other-item.is c.loop-other.invariant c.in_ok-names.ensures

pub returns : goal.returns
returns c =
    let le : length c.args.others.now ≤ c.loop-other.other-index = omega arith in
    map_done (name_now) c.args.others.now c.loop-other.other-index le c.loop-other.invariant
