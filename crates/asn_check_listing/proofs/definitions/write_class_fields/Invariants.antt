use Rattle.std.proofs.Common.{◌≡◌, ◌++◌, [], drop, map, true}
use Rattle.std.specs.Prelude.{codes}
use Rattle.asn_check_listing.specs.Parts.{led, nothing}
use Rattle.asn_check_listing.specs.Definitions.{class_field_text}
use Rattle.asn_check_listing.proofs.definitions.write_class_fields.Given as goal

abbrev pub invariant-loop-field : goal.invariant-loop-field
invariant-loop-field l = (l.out ++ led (codes " { ") (codes ", ") l.first (map class_field_text (drop l.field-index l.fields)) ≡ l.initial.out ++ led (codes " { ") (codes ", ") true (map class_field_text l.fields)) × (nothing l.first (map class_field_text (drop l.field-index l.fields)) ≡ nothing true (map class_field_text l.fields))
