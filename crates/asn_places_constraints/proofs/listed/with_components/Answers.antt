use Rattle.std.proofs.Common.{◌<◌, ◌≤◌, arith, length}
use Rattle.std.specs.Option.{option_map}
use Rattle.asn_meaning_heads.specs.Places.{shown_place}
use Rattle.asn_needs.specs.Sites.{AListed, beside}
use Rattle.asn_places_types.proofs.Adding.{map_next, map_done}
use Rattle.asn_places_types.specs.Sites.{shown_around, shown_sites}
use Rattle.asn_places_constraints.proofs.listed.with_components.Goals as goal

pub loop-component-preserved : goal.loop-component-preserved
loop-component-preserved c =
    let lt : c.loop-component.component-index < length c.args.components.now = omega arith in
    map_next (λ x. beside (shown_around c.args.around.now.value) (AListed x (option_map (λ p. shown_place p.now) c.args.place))) c.args.components.now c.loop-component.component-index c.component-item.result
    (shown_sites c.loop-component.sites) lt c.component-item.is c.loop-component.invariant c.in_ok-sites.ensures

pub returns : goal.returns
returns c =
    let le : length c.args.components.now ≤ c.loop-component.component-index = omega arith in
    map_done (λ x. beside (shown_around c.args.around.now.value) (AListed x (option_map (λ p. shown_place p.now) c.args.place))) c.args.components.now c.loop-component.component-index le c.loop-component.invariant
