use Rattle.std.proofs.Common.{◌≡◌, ◌++◌, drop, map}
use Rattle.asn_needs.specs.Sites.{ClassField, OfField, beside}
use Rattle.asn_places_types.specs.Sites.{shown_around, shown_sites}
use Rattle.asn_places_objects.proofs.first.with_fields.Given as goal

abbrev pub invariant-loop-field : goal.invariant-loop-field
invariant-loop-field l =
    shown_sites l.sites ++ map (λ f. beside (shown_around l.around.value) (ClassField OfField f)) (drop l.field-index l.fields)
    ≡ shown_sites l.initial.sites ++ map (λ f. beside (shown_around l.around.value) (ClassField OfField f)) l.fields
