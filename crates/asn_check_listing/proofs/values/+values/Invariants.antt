use Rattle.std.proofs.Common.{◌≡◌, ◌++◌, [], drop, map, true}
use Rattle.std.specs.Prelude.{codes}
use Rattle.asn_check_listing.specs.Parts.{led}
use Rattle.asn_check_listing.specs.Texts.{linked_text, value_text}
use Rattle.asn_check_listing.specs.Values.{kept, part_line}
use Rattle.asn_check_listing.proofs.values.+values.Given as goal

abbrev pub invariant-write_parts-loop-name : goal.invariant-write_parts-loop-name
invariant-write_parts-loop-name l = l.out ++ led [] (codes ", ") l.first (map part_line (map (λ p. (p.0, value_text p.1)) (drop l.name-index l.parts))) ≡ l.initial.out ++ led [] (codes ", ") true (map part_line (map (λ p. (p.0, value_text p.1)) l.parts))

abbrev pub invariant-write_values-loop-value : goal.invariant-write_values-loop-value
invariant-write_values-loop-value l = l.out ++ led [] (codes ", ") l.first (map value_text (drop l.value-index l.values)) ≡ l.initial.out ++ led [] (codes ", ") true (map value_text l.values)

abbrev pub invariant-write_fields-loop-field : goal.invariant-write_fields-loop-field
invariant-write_fields-loop-field l = l.out ++ led [] (codes ", ") l.first (kept (map linked_text (drop l.field-index l.fields))) ≡ l.initial.out ++ led [] (codes ", ") true (kept (map linked_text l.fields))
