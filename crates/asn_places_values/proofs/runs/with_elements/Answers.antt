use Rattle.std.proofs.Common.{◌<◌, ◌≤◌, arith, length}
use Rattle.std.specs.Option.{option_map}
use Rattle.asn_meaning_heads.specs.Places.{shown_place}
use Rattle.asn_meaning_heads.specs.Values.{shown_value}
use Rattle.asn_needs.specs.PartsOfValues.{inside}
use Rattle.asn_places_types.proofs.Adding.{map_next, map_done}
use Rattle.asn_places_types.specs.Sites.{shown_around, shown_sites}
use Rattle.asn_places_values.proofs.Running.{run_done}
use Rattle.asn_places_values.proofs.runs.with_elements.Goals as goal

pub loop-value-preserved : goal.loop-value-preserved
loop-value-preserved c =
    let lt : c.loop-value.value-index < length c.args.values.now = omega arith in
    map_next (λ x. inside (shown_around c.args.around.now.value) (option_map (λ p. shown_place p.now) c.args.element) (shown_value x)) c.args.values.now c.loop-value.value-index
    c.value-item.result (shown_sites c.loop-value.sites) lt c.value-item.is c.loop-value.invariant c.in_ok-sites.ensures

pub returns : goal.returns
returns c =
    let le : length c.args.values.now ≤ c.loop-value.value-index = omega arith in
    run_done (inside (shown_around c.args.around.now.value) (option_map (λ p. shown_place p.now) c.args.element)) shown_value c.args.values.now (shown_sites c.loop-value.sites) (shown_sites c.args.sites)
    (map_done (λ x. inside (shown_around c.args.around.now.value) (option_map (λ p. shown_place p.now) c.args.element) (shown_value x)) c.args.values.now c.loop-value.value-index le
    c.loop-value.invariant)
