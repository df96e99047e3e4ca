use Rattle.std.proofs.Common.{◌<◌, arith, length}
use Rattle.asn_needs.specs.Sites.{ClassField, OfField, beside}
use Rattle.asn_places_types.specs.Sites.{shown_around, shown_sites}
use Rattle.asn_places_types.proofs.Adding.{map_next}
use Rattle.asn_places_objects.proofs.first.with_fields.Goals as goal

pub loop-field-preserved : goal.loop-field-preserved
loop-field-preserved c =
    let lt : c.loop-field.field-index < length c.as_slice-fields.result.now = omega arith in
    map_next (λ f. beside (shown_around c.args.around.now.value) (ClassField OfField f)) c.as_slice-fields.result.now c.loop-field.field-index c.field-item.result (shown_sites c.loop-field.sites) lt c.field-item.is c.loop-field.invariant c.in_ok-sites.ensures
