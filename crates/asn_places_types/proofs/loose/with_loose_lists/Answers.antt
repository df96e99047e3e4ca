use Rattle.std.proofs.Common.{◌<◌, ◌≤◌, arith, length}
use Rattle.asn_places_types.specs.Sites.{shown_around, shown_sites}
use Rattle.asn_places_types.proofs.Loosening.{lists_done, lists_next}
use Rattle.asn_places_types.proofs.loose.with_loose_lists.Goals as goal

pub loop-constraint-preserved : goal.loop-constraint-preserved
loop-constraint-preserved c =
    let lt : c.loop-constraint.constraint-index < length c.args.constraints.now = omega arith in
    lists_next (shown_around c.args.around.now.value) c.args.constraints.now c.loop-constraint.constraint-index c.constraint-item.result (shown_sites c.loop-constraint.sites) lt c.constraint-item.is c.loop-constraint.invariant c.in_ok-sites.ensures

pub returns : goal.returns
returns c =
    let le : length c.args.constraints.now ≤ c.loop-constraint.constraint-index = omega arith in
    lists_done (shown_around c.args.around.now.value) c.args.constraints.now c.loop-constraint.constraint-index le c.loop-constraint.invariant
