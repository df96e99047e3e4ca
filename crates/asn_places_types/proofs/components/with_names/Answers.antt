use Rattle.std.proofs.Common.{◌≡◌, ◌<◌, ◌≤◌, ◌++◌, arith, length, map}
use Rattle.asn_places_types.specs.Sites.{shown_around, shown_sites}
use Rattle.asn_needs.specs.Sites.{ComponentsOf, beside}
use Rattle.asn_places_types.proofs.Adding.{map_next, map_done}
use Rattle.asn_places_types.proofs.components.with_names.Goals as goal

pub loop-name-preserved : goal.loop-name-preserved
loop-name-preserved c =
    let lt : c.loop-name.name-index < length c.args.names.now = omega arith in
    map_next (λ n. beside (shown_around c.args.around.now.value) (ComponentsOf n)) c.args.names.now c.loop-name.name-index c.name-item.result (shown_sites c.loop-name.sites) lt c.name-item.is c.loop-name.invariant c.in_ok-sites.ensures

pub returns : goal.returns
returns c =
    let le : length c.args.names.now ≤ c.loop-name.name-index = omega arith in
    map_done (λ n. beside (shown_around c.args.around.now.value) (ComponentsOf n)) c.args.names.now c.loop-name.name-index le c.loop-name.invariant
