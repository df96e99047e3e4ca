use Rattle.std.proofs.Common.{◌<◌, ◌≤◌, arith, length}
use Rattle.asn_places_types.specs.Sites.{shown_around, shown_sites}
use Rattle.asn_needs.specs.Sites.{LooseField, beside}
use Rattle.asn_places_types.proofs.Adding.{map_done, map_next}
use Rattle.asn_places_objects.proofs.sets.with_fields.Goals as goal

pub loop-field-preserved : goal.loop-field-preserved
loop-field-preserved c =
    let lt : c.loop-field.field-index < length c.args.fields.now = omega arith in
    map_next (λ f. beside (shown_around c.args.around.now.value) (LooseField f)) c.args.fields.now c.loop-field.field-index c.field-item.result (shown_sites c.loop-field.sites) lt c.field-item.is c.loop-field.invariant c.in_ok-sites.ensures

pub returns : goal.returns
returns c =
    let le : length c.args.fields.now ≤ c.loop-field.field-index = omega arith in
    map_done (λ f. beside (shown_around c.args.around.now.value) (LooseField f)) c.args.fields.now c.loop-field.field-index le c.loop-field.invariant
