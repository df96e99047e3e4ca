use Rattle.std.proofs.Common.{◌≡◌, ◌++◌, [], drop, map, true, Option}
use Rattle.std.specs.List.{zip}
use Rattle.std.specs.Prelude.{codes}
use Rattle.asn_check_listing.specs.Parts.{joined, led, nothing, with_marker}
use Rattle.asn_check_listing.specs.Constraints.{set_items}
use Rattle.asn_check_listing.specs.Texts.{component_text, constraint_text, field_text, item_text, member_text, object_text, option_text, parameter_text}
use Rattle.asn_check_listing.specs.Types.{among_members}
use Rattle.asn_check_listing.proofs.+writing.Given as goal

abbrev pub invariant-constraints::write_constraints-loop-constraint : goal.invariant-constraints::write_constraints-loop-constraint
invariant-constraints::write_constraints-loop-constraint l = l.out ++ joined (map constraint_text (drop l.constraint-index l.constraints)) ≡ l.initial.out ++ joined (map constraint_text l.constraints)

abbrev pub invariant-constraints::write_arguments-loop-argument : goal.invariant-constraints::write_arguments-loop-argument
invariant-constraints::write_arguments-loop-argument l = l.out ++ led [] (codes ", ") l.first (map parameter_text (drop l.argument-index l.arguments)) ≡ l.initial.out ++ led [] (codes ", ") true (map parameter_text l.arguments)

abbrev pub invariant-constraints::write_objects-loop-number : goal.invariant-constraints::write_objects-loop-number
invariant-constraints::write_objects-loop-number l = l.out ++ set_items l.marker l.number (map object_text (drop l.number l.items)) ≡ l.initial.out ++ set_items l.marker 0 (map object_text l.items)

abbrev pub invariant-constraints::write_element-loop-component : goal.invariant-constraints::write_element-loop-component
invariant-constraints::write_element-loop-component l = (l.out ++ led (codes " { ") (codes ", ") l.first (map component_text (drop l.component-index l.component-items)) ≡ l.initial.out ++ led (codes " { ") (codes ", ") l.initial.first (map component_text l.component-items)) × (nothing l.first (map component_text (drop l.component-index l.component-items)) ≡ nothing l.initial.first (map component_text l.component-items))

abbrev pub invariant-objects::write_fields-loop-field : goal.invariant-objects::write_fields-loop-field
invariant-objects::write_fields-loop-field l = l.out ++ led [] (codes ", ") l.first (map field_text (drop l.field-index l.fields)) ≡ l.initial.out ++ led [] (codes ", ") true (map field_text l.fields)

abbrev pub invariant-objects::write_items-loop-item : goal.invariant-objects::write_items-loop-item
invariant-objects::write_items-loop-item l = l.out ++ led [] (codes " ") l.first (map item_text (drop l.item-index l.items)) ≡ l.initial.out ++ led [] (codes " ") true (map item_text l.items)

abbrev pub invariant-types::write_options-loop-number : goal.invariant-types::write_options-loop-number
invariant-types::write_options-loop-number l = (l.out ++ led (codes " { ") (codes ", ") l.first (with_marker l.marker l.number (map option_text (drop l.number l.options))) ≡ l.initial.out ++ led (codes " { ") (codes ", ") true (with_marker l.marker 0 (map option_text l.options))) × (nothing l.first (with_marker l.marker l.number (map option_text (drop l.number l.options))) ≡ nothing true (with_marker l.marker 0 (map option_text l.options)))

abbrev pub invariant-types::write_members-loop-number : goal.invariant-types::write_members-loop-number
invariant-types::write_members-loop-number l = (l.out ++ led (codes " { ") (codes ", ") l.first (among_members (drop l.cursor (zip l.names l.places)) l.marker l.number (map member_text (drop l.number l.members))) ≡ l.initial.out ++ led (codes " { ") (codes ", ") true (among_members (zip l.names l.places) l.marker 0 (map member_text l.members))) × (nothing l.first (among_members (drop l.cursor (zip l.names l.places)) l.marker l.number (map member_text (drop l.number l.members))) ≡ nothing true (among_members (zip l.names l.places) l.marker 0 (map member_text l.members)))
