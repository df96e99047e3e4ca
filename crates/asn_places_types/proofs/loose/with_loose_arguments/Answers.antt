use Rattle.std.proofs.Common.{◌≡◌, ◌<◌, ◌≤◌, ◌++◌, arith, length, map}
use Rattle.asn_places_types.specs.Sites.{shown_around, shown_sites}
use Rattle.asn_needs.specs.Sites.{LooseArgument, beside}
use Rattle.asn_places_types.proofs.Adding.{map_next, map_done}
use Rattle.asn_places_types.proofs.loose.with_loose_arguments.Goals as goal

pub loop-argument-preserved : goal.loop-argument-preserved
loop-argument-preserved c =
    let lt : c.loop-argument.argument-index < length c.args.arguments.now = omega arith in
    map_next (λ a. beside (shown_around c.args.around.now.value) (LooseArgument a)) c.args.arguments.now c.loop-argument.argument-index c.argument-item.result (shown_sites c.loop-argument.sites) lt c.argument-item.is c.loop-argument.invariant c.in_ok-sites.ensures

pub returns : goal.returns
returns c =
    let le : length c.args.arguments.now ≤ c.loop-argument.argument-index = omega arith in
    map_done (λ a. beside (shown_around c.args.around.now.value) (LooseArgument a)) c.args.arguments.now c.loop-argument.argument-index le c.loop-argument.invariant
