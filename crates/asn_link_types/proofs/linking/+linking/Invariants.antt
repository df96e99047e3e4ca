use Rattle.std.proofs.Common.{◌≡◌, ◌+◌, ◌*◌, drop, length}
use Rattle.asn_meaning_heads.specs.Places.{shown_place}
use Rattle.asn_meaning_heads.specs.Scopes.{shown}
use Rattle.asn_link_instance.specs.Subjects.{gathered, traversed}
use Rattle.asn_link_types.specs.inner.Parts.{constraint_on, listed_on, option_at}
use Rattle.asn_link_types.proofs.Counting.{from}
use Rattle.asn_link_types.proofs.Gathering.{followed}
use Rattle.asn_link_types.proofs.linking.+linking.Given as goal

abbrev pub decreases-types::instance_of_type : goal.decreases-types::instance_of_type
decreases-types::instance_of_type l = 16 * l.levels

abbrev pub decreases-types::type_in : goal.decreases-types::type_in
decreases-types::type_in l = 16 * l.levels + 1

abbrev pub decreases-types::constrained : goal.decreases-types::constrained
decreases-types::constrained l = 16 * l.levels + 8

abbrev pub decreases-types::extended_beside : goal.decreases-types::extended_beside
decreases-types::extended_beside l = 16 * l.levels + 8

abbrev pub decreases-types::name_kept : goal.decreases-types::name_kept
decreases-types::name_kept l = 16 * l.levels + 8

abbrev pub decreases-types::written_instance : goal.decreases-types::written_instance
decreases-types::written_instance l = 16 * l.levels + 14

abbrev pub decreases-types::type_instance : goal.decreases-types::type_instance
decreases-types::type_instance l = 16 * l.levels + 15

abbrev pub decreases-members::member_typed : goal.decreases-members::member_typed
decreases-members::member_typed l = 16 * l.levels + 8

abbrev pub decreases-members::member_instance : goal.decreases-members::member_instance
decreases-members::member_instance l = 16 * l.levels + 9

abbrev pub decreases-members::member_at : goal.decreases-members::member_at
decreases-members::member_at l = 16 * l.levels + 10

abbrev pub decreases-members::of_members : goal.decreases-members::of_members
decreases-members::of_members l = 16 * l.levels + 11

abbrev pub decreases-members::struct_with : goal.decreases-members::struct_with
decreases-members::struct_with l = 16 * l.levels + 12

abbrev pub decreases-members::struct_instance : goal.decreases-members::struct_instance
decreases-members::struct_instance l = 16 * l.levels + 13

abbrev pub decreases-members::option_typed : goal.decreases-members::option_typed
decreases-members::option_typed l = 16 * l.levels + 8

abbrev pub decreases-members::option_instance : goal.decreases-members::option_instance
decreases-members::option_instance l = 16 * l.levels + 9

abbrev pub decreases-members::of_options : goal.decreases-members::of_options
decreases-members::of_options l = 16 * l.levels + 10

abbrev pub decreases-members::choice_instance : goal.decreases-members::choice_instance
decreases-members::choice_instance l = 16 * l.levels + 11

abbrev pub decreases-members::list_instance : goal.decreases-members::list_instance
decreases-members::list_instance l = 16 * l.levels + 8

abbrev pub decreases-contents::contained_type : goal.decreases-contents::contained_type
decreases-contents::contained_type l = 16 * l.levels + 2

abbrev pub decreases-contents::content_bound : goal.decreases-contents::content_bound
decreases-contents::content_bound l = 16 * l.levels + 3

abbrev pub decreases-contents::content_instance : goal.decreases-contents::content_instance
decreases-contents::content_instance l = 16 * l.levels + 4

abbrev pub decreases-constraints::constraint_instance : goal.decreases-constraints::constraint_instance
decreases-constraints::constraint_instance l = 16 * l.levels + 5

abbrev pub decreases-constraints::constraints_on : goal.decreases-constraints::constraints_on
decreases-constraints::constraints_on l = 16 * l.levels + 6

abbrev pub decreases-constraints::of_constraints : goal.decreases-constraints::of_constraints
decreases-constraints::of_constraints l = 16 * l.levels + 7

abbrev pub decreases-constraints::component_on : goal.decreases-constraints::component_on
decreases-constraints::component_on l = 16 * l.levels + 8

abbrev pub decreases-constraints::component_instance : goal.decreases-constraints::component_instance
decreases-constraints::component_instance l = 16 * l.levels + 9

abbrev pub decreases-constraints::listed_instance : goal.decreases-constraints::listed_instance
decreases-constraints::listed_instance l = 16 * l.levels + 8

abbrev pub decreases-constraints::listed_instances : goal.decreases-constraints::listed_instances
decreases-constraints::listed_instances l = 16 * l.levels + 9

abbrev pub decreases-constraints::inner_instance : goal.decreases-constraints::inner_instance
decreases-constraints::inner_instance l = 16 * l.levels + 11

abbrev pub decreases-elements::of_set : goal.decreases-elements::of_set
decreases-elements::of_set l = 16 * l.levels

abbrev pub decreases-elements::of_element : goal.decreases-elements::of_element
decreases-elements::of_element l = 16 * l.levels

abbrev pub decreases-elements::operation_behind : goal.decreases-elements::operation_behind
decreases-elements::operation_behind l = 16 * l.levels + 1

abbrev pub decreases-elements::operation_instance : goal.decreases-elements::operation_instance
decreases-elements::operation_instance l = 16 * l.levels + 2

abbrev pub decreases-elements::set_instance : goal.decreases-elements::set_instance
decreases-elements::set_instance l = 16 * l.levels + 3

abbrev pub decreases-elements::alphabet_instance : goal.decreases-elements::alphabet_instance
decreases-elements::alphabet_instance l = 16 * l.levels + 1

abbrev pub decreases-elements::size_instance : goal.decreases-elements::size_instance
decreases-elements::size_instance l = 16 * l.levels + 1

abbrev pub decreases-elements::element_instance : goal.decreases-elements::element_instance
decreases-elements::element_instance l = 16 * l.levels + 12

abbrev pub invariant-members::of_members-loop-member : goal.invariant-members::of_members-loop-member
invariant-members::of_members-loop-member l =
    (length l.made ≡ l.member-index) ×
    (followed l.made (from l.names.definitions.now l.steps l.levels l.marker l.member-index (drop l.member-index l.members)) ≡ from l.names.definitions.now l.steps l.levels l.marker 0 l.members)

abbrev pub invariant-members::of_options-loop-option : goal.invariant-members::of_options-loop-option
invariant-members::of_options-loop-option l =
    followed l.made (traversed (option_at l.names.definitions.now l.steps l.levels (shown l.scope)) (drop l.option-index l.options)) ≡ traversed (option_at l.names.definitions.now l.steps l.levels (shown l.scope)) l.options

abbrev pub invariant-constraints::constraints_on-loop-constraint : goal.invariant-constraints::constraints_on-loop-constraint
invariant-constraints::constraints_on-loop-constraint l =
    followed l.made (gathered (constraint_on l.names.definitions.now l.steps l.levels (shown l.scope) (shown_place l.head)) (drop l.constraint-index l.constraints))
    ≡ gathered (constraint_on l.names.definitions.now l.steps l.levels (shown l.scope) (shown_place l.head)) l.constraints

abbrev pub invariant-constraints::listed_instances-loop-listed : goal.invariant-constraints::listed_instances-loop-listed
invariant-constraints::listed_instances-loop-listed l =
    followed l.made (traversed (listed_on l.names.definitions.now l.steps l.levels (shown l.scope) (shown_place l.head)) (drop l.listed-index l.components))
    ≡ traversed (listed_on l.names.definitions.now l.steps l.levels (shown l.scope) (shown_place l.head)) l.components

abbrev pub decreases-types::extended : goal.decreases-types::extended
decreases-types::extended l = 16 * l.levels + 9

abbrev pub decreases-types::placed : goal.decreases-types::placed
decreases-types::placed l = 16 * l.levels + 10

abbrev pub decreases-types::replaced : goal.decreases-types::replaced
decreases-types::replaced l = 16 * l.levels + 11

abbrev pub decreases-types::name_followed : goal.decreases-types::name_followed
decreases-types::name_followed l = 16 * l.levels + 12

abbrev pub decreases-types::fixed_instance : goal.decreases-types::fixed_instance
decreases-types::fixed_instance l = 16 * l.levels + 12

abbrev pub decreases-types::selection_instance : goal.decreases-types::selection_instance
decreases-types::selection_instance l = 16 * l.levels + 12

abbrev pub decreases-types::reference_instance : goal.decreases-types::reference_instance
decreases-types::reference_instance l = 16 * l.levels + 13

abbrev pub decreases-types::field_instance : goal.decreases-types::field_instance
decreases-types::field_instance l = 16 * l.levels + 13

abbrev pub decreases-constraints::inner_on : goal.decreases-constraints::inner_on
decreases-constraints::inner_on l = 16 * l.levels + 10
