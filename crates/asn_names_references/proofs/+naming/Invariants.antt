use Rattle.std.proofs.Common.{◌≡◌, ◌++◌, drop, map}
use Rattle.asn_names_references.specs.References.{joined, names_in_argument, names_in_component, names_in_constraint, names_in_field, names_in_item, names_in_linked, names_in_member, names_in_objects, names_in_option, names_in_value}
use Rattle.asn_names_references.proofs.+naming.Given as goal

abbrev pub invariant-types::add_members-loop-member : goal.invariant-types::add_members-loop-member
invariant-types::add_members-loop-member l = map (λ n. n.now) l.out ++ joined (map names_in_member (drop l.member-index l.members)) l.wanted ≡ map (λ n. n.now) l.initial.out ++ joined (map names_in_member l.members) l.wanted

abbrev pub invariant-types::add_options-loop-option : goal.invariant-types::add_options-loop-option
invariant-types::add_options-loop-option l = map (λ n. n.now) l.out ++ joined (map names_in_option (drop l.option-index l.options)) l.wanted ≡ map (λ n. n.now) l.initial.out ++ joined (map names_in_option l.options) l.wanted

abbrev pub invariant-constraints::add_constraints-loop-constraint : goal.invariant-constraints::add_constraints-loop-constraint
invariant-constraints::add_constraints-loop-constraint l = map (λ n. n.now) l.out ++ joined (map names_in_constraint (drop l.constraint-index l.constraints)) l.wanted ≡ map (λ n. n.now) l.initial.out ++ joined (map names_in_constraint l.constraints) l.wanted

abbrev pub invariant-constraints::add_arguments-loop-argument : goal.invariant-constraints::add_arguments-loop-argument
invariant-constraints::add_arguments-loop-argument l = map (λ n. n.now) l.out ++ joined (map names_in_argument (drop l.argument-index l.arguments)) l.wanted ≡ map (λ n. n.now) l.initial.out ++ joined (map names_in_argument l.arguments) l.wanted

abbrev pub invariant-constraints::add_element-loop-component : goal.invariant-constraints::add_element-loop-component
invariant-constraints::add_element-loop-component l = map (λ n. n.now) l.out ++ joined (map names_in_component (drop l.component-index l.component-items)) l.wanted ≡ map (λ n. n.now) l.initial.out ++ joined (map names_in_component l.component-items) l.wanted

abbrev pub invariant-values::add_values-loop-value : goal.invariant-values::add_values-loop-value
invariant-values::add_values-loop-value l = map (λ n. n.now) l.out ++ joined (map names_in_value (drop l.value-index l.values)) l.wanted ≡ map (λ n. n.now) l.initial.out ++ joined (map names_in_value l.values) l.wanted

abbrev pub invariant-values::add_linked_fields-loop-field : goal.invariant-values::add_linked_fields-loop-field
invariant-values::add_linked_fields-loop-field l = map (λ n. n.now) l.out ++ joined (map names_in_linked (drop l.field-index l.fields)) l.wanted ≡ map (λ n. n.now) l.initial.out ++ joined (map names_in_linked l.fields) l.wanted

abbrev pub invariant-objects::add_each_field-loop-field : goal.invariant-objects::add_each_field-loop-field
invariant-objects::add_each_field-loop-field l = map (λ n. n.now) l.out ++ joined (map names_in_field (drop l.field-index l.fields)) l.wanted ≡ map (λ n. n.now) l.initial.out ++ joined (map names_in_field l.fields) l.wanted

abbrev pub invariant-objects::add_items-loop-item : goal.invariant-objects::add_items-loop-item
invariant-objects::add_items-loop-item l = map (λ n. n.now) l.out ++ joined (map names_in_item (drop l.item-index l.items)) l.wanted ≡ map (λ n. n.now) l.initial.out ++ joined (map names_in_item l.items) l.wanted

abbrev pub invariant-values::add_parts-loop-part : goal.invariant-values::add_parts-loop-part
invariant-values::add_parts-loop-part l = map (λ n. n.now) l.out ++ joined (map (λ p. names_in_value p.1) (drop l.part-index l.parts)) l.wanted ≡ map (λ n. n.now) l.initial.out ++ joined (map (λ p. names_in_value p.1) l.parts) l.wanted

abbrev pub invariant-objects::add_objects-loop-item : goal.invariant-objects::add_objects-loop-item
invariant-objects::add_objects-loop-item l = map (λ n. n.now) l.out ++ names_in_objects (drop l.item-index l.items) l.wanted ≡ map (λ n. n.now) l.initial.out ++ names_in_objects l.items l.wanted
