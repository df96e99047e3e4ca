use Rattle.std.proofs.Common.{◌≡◌, drop, map}
use Rattle.asn_link_forms.specs.Forms.{any_behind, in_argument, in_component, in_constraint, in_given, in_item, in_item_of_set, in_member, in_option, is_any, seeking}
use Rattle.asn_link_forms.proofs.+looking.Given as goal

abbrev pub invariant-constraints::in_constraints-loop-constraint : goal.invariant-constraints::in_constraints-loop-constraint
invariant-constraints::in_constraints-loop-constraint l =
    any_behind l.found (map (in_constraint l.form) (drop l.constraint-index l.constraints)) ≡ is_any (map (in_constraint l.form) l.constraints)

abbrev pub invariant-constraints::in_arguments-loop-argument : goal.invariant-constraints::in_arguments-loop-argument
invariant-constraints::in_arguments-loop-argument l =
    any_behind l.found (map (in_argument l.form) (drop l.argument-index l.arguments)) ≡ is_any (map (in_argument l.form) l.arguments)

abbrev pub invariant-constraints::in_element-loop-component : goal.invariant-constraints::in_element-loop-component
invariant-constraints::in_element-loop-component l =
    any_behind l.found (map (in_component (seeking l.form)) (drop l.component-index l.component-items))
    ≡ is_any (map (in_component (seeking l.form)) l.component-items)

abbrev pub invariant-objects::in_objects-loop-item : goal.invariant-objects::in_objects-loop-item
invariant-objects::in_objects-loop-item l =
    any_behind l.found (map (in_item_of_set l.form) (drop l.item-index l.items)) ≡ is_any (map (in_item_of_set l.form) l.items)

abbrev pub invariant-objects::in_each_given-loop-field : goal.invariant-objects::in_each_given-loop-field
invariant-objects::in_each_given-loop-field l =
    any_behind l.found (map (in_given l.form) (drop l.field-index l.fields)) ≡ is_any (map (in_given l.form) l.fields)

abbrev pub invariant-objects::in_items-loop-item : goal.invariant-objects::in_items-loop-item
invariant-objects::in_items-loop-item l =
    any_behind l.found (map (in_item l.form) (drop l.item-index l.items)) ≡ is_any (map (in_item l.form) l.items)

abbrev pub invariant-types::in_members-loop-member : goal.invariant-types::in_members-loop-member
invariant-types::in_members-loop-member l =
    any_behind l.found (map (in_member l.form) (drop l.member-index l.members)) ≡ is_any (map (in_member l.form) l.members)

abbrev pub invariant-types::in_options-loop-option : goal.invariant-types::in_options-loop-option
invariant-types::in_options-loop-option l =
    any_behind l.found (map (in_option l.form) (drop l.option-index l.options)) ≡ is_any (map (in_option l.form) l.options)
