use Rattle.std.proofs.Common.{◌≡◌, ◌<◌, ◌≤◌, ◌++◌, arith, length, map}
use Rattle.asn_places_types.specs.Sites.{shown_around, shown_sites}
use Rattle.asn_needs.specs.Sites.{ADummy, beside}
use Rattle.asn_places_types.proofs.Adding.{map_next, map_done}
use Rattle.asn_places_types.proofs.instances.with_dummies.Goals as goal

pub loop-dummy-preserved : goal.loop-dummy-preserved
loop-dummy-preserved c =
    let lt : c.loop-dummy.dummy-index < length c.args.dummies.now = omega arith in
    map_next (λ d. beside (shown_around c.args.around.now.value) (ADummy d)) c.args.dummies.now c.loop-dummy.dummy-index c.dummy-item.result (shown_sites c.loop-dummy.sites) lt c.dummy-item.is c.loop-dummy.invariant c.in_ok-sites.ensures

pub returns : goal.returns
returns c =
    let le : length c.args.dummies.now ≤ c.loop-dummy.dummy-index = omega arith in
    map_done (λ d. beside (shown_around c.args.around.now.value) (ADummy d)) c.args.dummies.now c.loop-dummy.dummy-index le c.loop-dummy.invariant
