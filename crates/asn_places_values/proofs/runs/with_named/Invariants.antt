use Rattle.std.proofs.Common.{◌≡◌, ◌++◌, drop, map}
use Rattle.asn_meaning_values.specs.Braces.{shown_named}
use Rattle.asn_needs.specs.PartsOfValues.{inside, member_type}
use Rattle.asn_meaning_shapes.specs.Members.{shown_members}
use Rattle.asn_places_types.specs.Sites.{shown_around, shown_sites}
use Rattle.asn_places_values.proofs.runs.with_named.Given as goal

abbrev pub invariant-loop-field : goal.invariant-loop-field
invariant-loop-field l =
    shown_sites l.sites ++ map (λ x. inside (shown_around l.around.value) (member_type (shown_members l.members) (shown_named x).0) (shown_named x).1) (drop l.field-index l.fields)
    ≡ shown_sites l.initial.sites ++ map (λ x. inside (shown_around l.around.value) (member_type (shown_members l.members) (shown_named x).0) (shown_named x).1) l.fields
