use Rattle.std.proofs.Common.{◌≡◌, ◌++◌, drop, map}
use Rattle.asn_places_types.specs.Sites.{shown_around, shown_sites}
use Rattle.asn_places_objects.specs.inner.Fields.{given_site}
use Rattle.asn_places_types.specs.Forms.{shown_of_class}
use Rattle.asn_places_objects.proofs.objects.with_fields.Given as goal

abbrev pub invariant-loop-field : goal.invariant-loop-field
invariant-loop-field l =
    shown_sites l.sites ++ map (given_site (shown_around l.around.value) (shown_of_class l.class)) (drop l.field-index l.fields)
    ≡ shown_sites l.initial.sites ++ map (given_site (shown_around l.around.value) (shown_of_class l.class)) l.fields
