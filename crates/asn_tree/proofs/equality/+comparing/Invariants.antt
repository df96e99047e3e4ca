use Rattle.std.proofs.Common.{◌≡◌, take, length}
use Rattle.asn_tree.proofs.equality.+comparing.Given as goal

abbrev pub invariant-constraints::same_constraints-loop-i : goal.invariant-constraints::same_constraints-loop-i
invariant-constraints::same_constraints-loop-i l = (length l.xs ≡ length l.ys) × (take l.i l.xs ≡ take l.i l.ys)

abbrev pub invariant-constraints::same_parameters-loop-i : goal.invariant-constraints::same_parameters-loop-i
invariant-constraints::same_parameters-loop-i l = (length l.xs ≡ length l.ys) × (take l.i l.xs ≡ take l.i l.ys)

abbrev pub invariant-constraints::same_subtype_element-loop-i : goal.invariant-constraints::same_subtype_element-loop-i
invariant-constraints::same_subtype_element-loop-i l = (length l.xs ≡ length l.ys) × (take l.i l.xs ≡ take l.i l.ys)

abbrev pub invariant-objects::same_object_fields-loop-i : goal.invariant-objects::same_object_fields-loop-i
invariant-objects::same_object_fields-loop-i l = (length l.xs ≡ length l.ys) × (take l.i l.xs ≡ take l.i l.ys)

abbrev pub invariant-objects::same_object_set_values-loop-i : goal.invariant-objects::same_object_set_values-loop-i
invariant-objects::same_object_set_values-loop-i l = (length l.xs ≡ length l.ys) × (take l.i l.xs ≡ take l.i l.ys)

abbrev pub invariant-objects::same_syntax_applications-loop-i : goal.invariant-objects::same_syntax_applications-loop-i
invariant-objects::same_syntax_applications-loop-i l = (length l.xs ≡ length l.ys) × (take l.i l.xs ≡ take l.i l.ys)

abbrev pub invariant-types::same_members-loop-i : goal.invariant-types::same_members-loop-i
invariant-types::same_members-loop-i l = (length l.xs ≡ length l.ys) × (take l.i l.xs ≡ take l.i l.ys)

abbrev pub invariant-types::same_options-loop-i : goal.invariant-types::same_options-loop-i
invariant-types::same_options-loop-i l = (length l.xs ≡ length l.ys) × (take l.i l.xs ≡ take l.i l.ys)

abbrev pub invariant-values::same_boxed_values-loop-i : goal.invariant-values::same_boxed_values-loop-i
invariant-values::same_boxed_values-loop-i l = (length l.xs ≡ length l.ys) × (take l.i l.xs ≡ take l.i l.ys)

abbrev pub invariant-values::same_linked_fields-loop-i : goal.invariant-values::same_linked_fields-loop-i
invariant-values::same_linked_fields-loop-i l = (length l.xs ≡ length l.ys) × (take l.i l.xs ≡ take l.i l.ys)

abbrev pub invariant-values::same_named_values-loop-i : goal.invariant-values::same_named_values-loop-i
invariant-values::same_named_values-loop-i l = (length l.xs ≡ length l.ys) × (take l.i l.xs ≡ take l.i l.ys)
