use Rattle.std.proofs.Common.{◌≡◌, ◌<◌, ◌≤◌, ◌++◌, arith, length, map}
use Rattle.asn_places_types.specs.Sites.{shown_around, shown_sites}
use Rattle.std.specs.Option.{option_map}
use Rattle.asn_meaning_heads.specs.Places.{shown_place}
use Rattle.asn_needs.specs.Sites.{AConstraint, beside}
use Rattle.asn_places_types.proofs.Adding.{map_next, map_done}
use Rattle.asn_places_types.proofs.constraints.with_constraints.Goals as goal

pub loop-constraint-preserved : goal.loop-constraint-preserved
loop-constraint-preserved c =
    let lt : c.loop-constraint.constraint-index < length c.args.constraints.now = omega arith in
    map_next (λ x. beside (shown_around c.args.around.now.value) (AConstraint x (option_map (λ p. shown_place p.now) c.args.place))) c.args.constraints.now c.loop-constraint.constraint-index c.constraint-item.result (shown_sites c.loop-constraint.sites) lt c.constraint-item.is c.loop-constraint.invariant c.in_ok-sites.ensures

pub returns : goal.returns
returns c =
    let le : length c.args.constraints.now ≤ c.loop-constraint.constraint-index = omega arith in
    map_done (λ x. beside (shown_around c.args.around.now.value) (AConstraint x (option_map (λ p. shown_place p.now) c.args.place))) c.args.constraints.now c.loop-constraint.constraint-index le c.loop-constraint.invariant
