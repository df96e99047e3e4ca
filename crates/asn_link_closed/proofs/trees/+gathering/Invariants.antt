use Rattle.std.proofs.Common.{◌≡◌, ◌++◌, drop, map}
use Rattle.asn_link_closed.specs.Lent.{shown_staying_names}
use Rattle.asn_link_closed.specs.StayingNames.{joined, names_in_component, names_in_constraint, names_in_member, names_in_option}
use Rattle.asn_link_closed.proofs.trees.+gathering.Given as goal

abbrev pub invariant-add_members-loop-member : goal.invariant-add_members-loop-member
invariant-add_members-loop-member l = shown_staying_names l.names ++ joined (map names_in_member (drop l.member-index l.members)) ≡ shown_staying_names l.initial.names ++ joined (map names_in_member l.members)

abbrev pub invariant-add_options-loop-option : goal.invariant-add_options-loop-option
invariant-add_options-loop-option l = shown_staying_names l.names ++ joined (map names_in_option (drop l.option-index l.options)) ≡ shown_staying_names l.initial.names ++ joined (map names_in_option l.options)

abbrev pub invariant-add_constraints-loop-constraint : goal.invariant-add_constraints-loop-constraint
invariant-add_constraints-loop-constraint l = shown_staying_names l.names ++ joined (map names_in_constraint (drop l.constraint-index l.constraints)) ≡ shown_staying_names l.initial.names ++ joined (map names_in_constraint l.constraints)

abbrev pub invariant-add_element-loop-component : goal.invariant-add_element-loop-component
invariant-add_element-loop-component l = shown_staying_names l.names ++ joined (map names_in_component (drop l.component-index l.component-items)) ≡ shown_staying_names l.initial.names ++ joined (map names_in_component l.component-items)
