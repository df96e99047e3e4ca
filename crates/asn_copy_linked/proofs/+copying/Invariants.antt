use Rattle.std.proofs.Common.{◌≡◌, take}
use Rattle.asn_copy_linked.proofs.+copying.Given as goal

abbrev pub invariant-constraints::copy_constraints-loop-constraint : goal.invariant-constraints::copy_constraints-loop-constraint
invariant-constraints::copy_constraints-loop-constraint l = l.copies ≡ take l.constraint-index l.constraint-items

abbrev pub invariant-constraints::copy_parameters-loop-argument : goal.invariant-constraints::copy_parameters-loop-argument
invariant-constraints::copy_parameters-loop-argument l = l.copies ≡ take l.argument-index l.argument-items

abbrev pub invariant-constraints::copy_subtype_element-loop-component : goal.invariant-constraints::copy_subtype_element-loop-component
invariant-constraints::copy_subtype_element-loop-component l = l.components ≡ take l.component-index l.component-items

abbrev pub invariant-objects::copy_object_fields-loop-field : goal.invariant-objects::copy_object_fields-loop-field
invariant-objects::copy_object_fields-loop-field l = l.copies ≡ take l.field-index l.field-items

abbrev pub invariant-objects::copy_object_set_values-loop-item : goal.invariant-objects::copy_object_set_values-loop-item
invariant-objects::copy_object_set_values-loop-item l = l.copies ≡ take l.item-index l.item-items

abbrev pub invariant-objects::copy_syntax_applications-loop-item : goal.invariant-objects::copy_syntax_applications-loop-item
invariant-objects::copy_syntax_applications-loop-item l = l.copies ≡ take l.item-index l.item-items

abbrev pub invariant-types::copy_members-loop-member : goal.invariant-types::copy_members-loop-member
invariant-types::copy_members-loop-member l = l.copies ≡ take l.member-index l.member-items

abbrev pub invariant-types::copy_options-loop-option : goal.invariant-types::copy_options-loop-option
invariant-types::copy_options-loop-option l = l.copies ≡ take l.option-index l.option-items

abbrev pub invariant-values::copy_boxed_values-loop-element : goal.invariant-values::copy_boxed_values-loop-element
invariant-values::copy_boxed_values-loop-element l = l.copies ≡ take l.element-index l.element-items

abbrev pub invariant-values::copy_linked_fields-loop-field : goal.invariant-values::copy_linked_fields-loop-field
invariant-values::copy_linked_fields-loop-field l = l.copies ≡ take l.field-index l.field-items

abbrev pub invariant-values::copy_named_values-loop-item : goal.invariant-values::copy_named_values-loop-item
invariant-values::copy_named_values-loop-item l = l.copies ≡ take l.item-index l.item-items
