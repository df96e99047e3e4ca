use Rattle.std.proofs.Common.{◌≡◌, ◌++◌, drop, map}
use Rattle.asn_meaning_unchanged.specs.References.{joined, names_in_argument, names_in_component, names_in_constraint, names_in_member, names_in_option}
use Rattle.asn_meaning_unchanged.proofs.references.+naming.Given as goal

abbrev pub invariant-add_members-loop-member : goal.invariant-add_members-loop-member
invariant-add_members-loop-member l = map (λ n. n.now) l.out ++ joined (map names_in_member (drop l.member-index l.members)) ≡ map (λ n. n.now) l.initial.out ++ joined (map names_in_member l.members)

abbrev pub invariant-add_options-loop-option : goal.invariant-add_options-loop-option
invariant-add_options-loop-option l = map (λ n. n.now) l.out ++ joined (map names_in_option (drop l.option-index l.options)) ≡ map (λ n. n.now) l.initial.out ++ joined (map names_in_option l.options)

abbrev pub invariant-add_constraints-loop-constraint : goal.invariant-add_constraints-loop-constraint
invariant-add_constraints-loop-constraint l = map (λ n. n.now) l.out ++ joined (map names_in_constraint (drop l.constraint-index l.constraints)) ≡ map (λ n. n.now) l.initial.out ++ joined (map names_in_constraint l.constraints)

abbrev pub invariant-add_arguments-loop-argument : goal.invariant-add_arguments-loop-argument
invariant-add_arguments-loop-argument l = map (λ n. n.now) l.out ++ joined (map names_in_argument (drop l.argument-index l.arguments)) ≡ map (λ n. n.now) l.initial.out ++ joined (map names_in_argument l.arguments)

abbrev pub invariant-add_element-loop-component : goal.invariant-add_element-loop-component
invariant-add_element-loop-component l = map (λ n. n.now) l.out ++ joined (map names_in_component (drop l.component-index l.component-items)) ≡ map (λ n. n.now) l.initial.out ++ joined (map names_in_component l.component-items)
