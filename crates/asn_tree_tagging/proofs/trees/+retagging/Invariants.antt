use Rattle.asn_tree_tagging.proofs.InPlace.{ChangedUpTo}
use Rattle.asn_tree_tagging.specs.inner.Parts.{retagged_component, retagged_named}
use Rattle.asn_tree.specs.Passes.{rewritten_constraint, rewritten_field, rewritten_item, rewritten_linked, rewritten_member, rewritten_option, rewritten_parameter, rewritten_value}
use Rattle.asn_tree.specs.Tagging.{retagged_item, retagging}
use Rattle.asn_tree_tagging.proofs.trees.+retagging.Given as goal

abbrev pub invariant-retag_constraints-loop-i : goal.invariant-retag_constraints-loop-i
invariant-retag_constraints-loop-i l = ChangedUpTo l.i (rewritten_constraint (retagging l.environment)) l.initial.constraints l.constraints

abbrev pub invariant-retag_parameters-loop-i : goal.invariant-retag_parameters-loop-i
invariant-retag_parameters-loop-i l = ChangedUpTo l.i (rewritten_parameter (retagging l.environment)) l.initial.parameters l.parameters

abbrev pub invariant-retag_element-loop-i : goal.invariant-retag_element-loop-i
invariant-retag_element-loop-i l = ChangedUpTo l.i (retagged_component l.environment) l.initial.components l.components

abbrev pub invariant-retag_members-loop-i : goal.invariant-retag_members-loop-i
invariant-retag_members-loop-i l = ChangedUpTo l.i (rewritten_member (retagging l.environment)) l.initial.members l.members

abbrev pub invariant-retag_options-loop-i : goal.invariant-retag_options-loop-i
invariant-retag_options-loop-i l = ChangedUpTo l.i (rewritten_option (retagging l.environment)) l.initial.options l.options

abbrev pub invariant-retag_set_values-loop-i : goal.invariant-retag_set_values-loop-i
invariant-retag_set_values-loop-i l = ChangedUpTo l.i (retagged_item l.environment) l.initial.set_values l.set_values

abbrev pub invariant-retag_field_list-loop-i : goal.invariant-retag_field_list-loop-i
invariant-retag_field_list-loop-i l = ChangedUpTo l.i (rewritten_field (retagging l.environment)) l.initial.field_list l.field_list

abbrev pub invariant-retag_applications-loop-i : goal.invariant-retag_applications-loop-i
invariant-retag_applications-loop-i l = ChangedUpTo l.i (rewritten_item (retagging l.environment)) l.initial.applications l.applications

abbrev pub invariant-retag_named_values-loop-i : goal.invariant-retag_named_values-loop-i
invariant-retag_named_values-loop-i l = ChangedUpTo l.i (retagged_named l.environment) l.initial.named_values l.named_values

abbrev pub invariant-retag_linked_fields-loop-i : goal.invariant-retag_linked_fields-loop-i
invariant-retag_linked_fields-loop-i l = ChangedUpTo l.i (rewritten_linked (retagging l.environment)) l.initial.linked_fields l.linked_fields

abbrev pub invariant-retag_boxed_values-loop-i : goal.invariant-retag_boxed_values-loop-i
invariant-retag_boxed_values-loop-i l = ChangedUpTo l.i (rewritten_value (retagging l.environment)) l.initial.boxed_values l.boxed_values
