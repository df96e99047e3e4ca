use Rattle.std.proofs.Common.{◌≡◌, ℕ, ◌+◌, ◌-◌, ◌*◌, drop}
use Rattle.std.specs.Option.{option_map}
use Rattle.asn_meaning_heads.specs.Places.{shown_place}
use Rattle.asn_meaning_heads.specs.Scopes.{shown}
use Rattle.asn_meaning_heads.specs.Trails.{place_at, shown_targets}
use Rattle.asn_judge.specs.inner.Judging.{characters_hold, element_holds, type_accepts}
use Rattle.asn_judge.specs.inner.Ranking.{ranks_on}
use Rattle.asn_judge.proofs.Holding.{ranked_by}
use Rattle.asn_meaning_ranges.specs.Chains.{shown_chain}
use Rattle.asn_meaning_ranges.specs.Parents.{shown_parent}
use Rattle.asn_meaning_ranges.specs.Sets.{shown_numbers}
use Rattle.asn_meaning_shapes.specs.Answers.{known}
use Rattle.asn_meaning_shapes.specs.Members.{shown_members}
use Rattle.asn_meaning_shapes.specs.Trees.{shown_fields, shown_tree, shown_trees}
use Rattle.asn_meaning_shapes.proofs.Judging.{from}
use Rattle.asn_meaning.specs.Answers.{both, each}
use Rattle.asn_meaning.specs.Constraints.{all_hold, listed_member_holds, listed_option_holds, part_holds}
use Rattle.asn_meaning.specs.Judge.{meaning, member_accepts, stands_for}
use Rattle.asn_meaning.specs.Numbers.{answers, ranked}
use Rattle.asn_meaning.specs.Names.{lead}
use Rattle.asn_meaning.specs.Ranges.{narrowed_by_all, numbers_before}
use Rattle.asn_meaning.specs.Shapes.{trees_judged}
use Rattle.asn_judge.proofs.judging.+judging.Given as goal

abbrev pub decreases-accepting::accepts : goal.decreases-accepting::accepts
decreases-accepting::accepts l = 16 * l.steps

abbrev pub decreases-accepting::type_accepts : goal.decreases-accepting::type_accepts
decreases-accepting::type_accepts l = 16 * l.steps + 1

abbrev pub decreases-accepting::elements_accepted : goal.decreases-accepting::elements_accepted
decreases-accepting::elements_accepted l = 16 * l.steps + 2

abbrev pub decreases-accepting::list_accepts : goal.decreases-accepting::list_accepts
decreases-accepting::list_accepts l = 16 * l.steps + 3

abbrev pub decreases-accepting::choice_accepts : goal.decreases-accepting::choice_accepts
decreases-accepting::choice_accepts l = 16 * l.steps + 1

abbrev pub decreases-accepting::member_accepts : goal.decreases-accepting::member_accepts
decreases-accepting::member_accepts l = 16 * l.steps + 1

abbrev pub decreases-accepting::members_accept : goal.decreases-accepting::members_accept
decreases-accepting::members_accept l = 16 * l.steps + 2

abbrev pub decreases-accepting::fields_accepted : goal.decreases-accepting::fields_accepted
decreases-accepting::fields_accepted l = 16 * l.steps + 3

abbrev pub decreases-accepting::struct_accepts : goal.decreases-accepting::struct_accepts
decreases-accepting::struct_accepts l = 16 * l.steps + 4

abbrev pub decreases-accepting::parts_accepted : goal.decreases-accepting::parts_accepted
decreases-accepting::parts_accepted l = 16 * l.steps + 5

abbrev pub decreases-accepting::kind_accepts : goal.decreases-accepting::kind_accepts
decreases-accepting::kind_accepts l = 16 * l.steps + 6

abbrev pub decreases-accepting::head_accepts : goal.decreases-accepting::head_accepts
decreases-accepting::head_accepts l = 16 * l.steps + 7

abbrev pub decreases-accepting::accepts_on : goal.decreases-accepting::accepts_on
decreases-accepting::accepts_on l = 16 * l.steps + 8

abbrev pub decreases-accepting::accepts_at : goal.decreases-accepting::accepts_at
decreases-accepting::accepts_at l = 16 * l.steps + 9

abbrev pub decreases-constraints::chain_holds : goal.decreases-constraints::chain_holds
decreases-constraints::chain_holds l = 16 * l.steps + 1

abbrev pub decreases-constraints::set_holds : goal.decreases-constraints::set_holds
decreases-constraints::set_holds l = 16 * l.steps + 2

abbrev pub decreases-constraints::constraint_at : goal.decreases-constraints::constraint_at
decreases-constraints::constraint_at l = 16 * l.steps + 3

abbrev pub decreases-constraints::constraint_holds : goal.decreases-constraints::constraint_holds
decreases-constraints::constraint_holds l = 16 * l.steps + 4

abbrev pub decreases-constraints::all_hold : goal.decreases-constraints::all_hold
decreases-constraints::all_hold l = 16 * l.steps + 5

abbrev pub decreases-constraints::held_with : goal.decreases-constraints::held_with
decreases-constraints::held_with l = 16 * l.steps + 6

abbrev pub decreases-constraints::part_holds : goal.decreases-constraints::part_holds
decreases-constraints::part_holds l = 16 * l.steps + 6

abbrev pub decreases-elements::holds : goal.decreases-elements::holds
decreases-elements::holds l = 16 * l.steps

abbrev pub decreases-elements::character_holds : goal.decreases-elements::character_holds
decreases-elements::character_holds l = 16 * l.steps + 3

abbrev pub decreases-elements::characters_hold : goal.decreases-elements::characters_hold
decreases-elements::characters_hold l = 16 * l.steps + 4

abbrev pub decreases-elements::alphabet_holds : goal.decreases-elements::alphabet_holds
decreases-elements::alphabet_holds l = 16 * l.steps + 5

abbrev pub decreases-elements::size_is_in : goal.decreases-elements::size_is_in
decreases-elements::size_is_in l = 16 * l.steps + 3

abbrev pub decreases-elements::size_holds : goal.decreases-elements::size_holds
decreases-elements::size_holds l = 16 * l.steps + 4

abbrev pub decreases-elements::elements_hold : goal.decreases-elements::elements_hold
decreases-elements::elements_hold l = 16 * l.steps + 7

abbrev pub decreases-elements::list_holds : goal.decreases-elements::list_holds
decreases-elements::list_holds l = 16 * l.steps + 8

abbrev pub decreases-elements::component_holds : goal.decreases-elements::component_holds
decreases-elements::component_holds l = 16 * l.steps + 9

abbrev pub decreases-elements::holds_at : goal.decreases-elements::holds_at
decreases-elements::holds_at l = 16 * l.steps + 14

abbrev pub decreases-components::option_holds : goal.decreases-components::option_holds
decreases-components::option_holds l = 16 * l.steps + 7

abbrev pub decreases-components::listed_option_holds : goal.decreases-components::listed_option_holds
decreases-components::listed_option_holds l = 16 * l.steps + 8

abbrev pub decreases-components::listed_options_hold : goal.decreases-components::listed_options_hold
decreases-components::listed_options_hold l = 16 * l.steps + 9

abbrev pub decreases-components::choice_holds : goal.decreases-components::choice_holds
decreases-components::choice_holds l = 16 * l.steps + 10

abbrev pub decreases-components::member_holds : goal.decreases-components::member_holds
decreases-components::member_holds l = 16 * l.steps + 7

abbrev pub decreases-components::listed_member_holds : goal.decreases-components::listed_member_holds
decreases-components::listed_member_holds l = 16 * l.steps + 8

abbrev pub decreases-components::listed_members_hold : goal.decreases-components::listed_members_hold
decreases-components::listed_members_hold l = 16 * l.steps + 9

abbrev pub decreases-components::members_hold : goal.decreases-components::members_hold
decreases-components::members_hold l = 16 * l.steps + 10

abbrev pub decreases-components::struct_holds : goal.decreases-components::struct_holds
decreases-components::struct_holds l = 16 * l.steps + 11

abbrev pub decreases-components::inner_at : goal.decreases-components::inner_at
decreases-components::inner_at l = 16 * l.steps + 12

abbrev pub decreases-components::inner_holds : goal.decreases-components::inner_holds
decreases-components::inner_holds l = 16 * l.steps + 13

abbrev pub invariant-accepting::members_accept-loop-member : goal.invariant-accepting::members_accept-loop-member
invariant-accepting::members_accept-loop-member l =
    (m : ℕ) →
    both (known l.answer) (from (member_accepts (meaning l.names.definitions.now (l.steps + m))) (shown_fields l.fields.fields.now) (drop l.member-index l.members))
    ≡ from (member_accepts (meaning l.names.definitions.now (l.steps + m))) (shown_fields l.fields.fields.now) l.members

abbrev pub invariant-accepting::elements_accepted-loop-element : goal.invariant-accepting::elements_accepted-loop-element
invariant-accepting::elements_accepted-loop-element l =
    (m : ℕ) →
    both (known l.answer) (trees_judged (type_accepts (meaning l.names.definitions.now (l.steps + m)) (shown l.scope) l.ty) (shown_trees (drop l.element-index l.elements)))
    ≡ trees_judged (type_accepts (meaning l.names.definitions.now (l.steps + m)) (shown l.scope) l.ty) (shown_trees l.elements)

abbrev pub invariant-constraints::chain_holds-loop-joined : goal.invariant-constraints::chain_holds-loop-joined
invariant-constraints::chain_holds-loop-joined l =
    (m : ℕ) →
    ranked_by (element_holds (meaning l.names.definitions.now (l.steps + m)) (shown l.scope) (shown_parent l.parent) (shown_tree l.tree)) (ranks_on l.ranking) (drop l.joined-index l.others)
    ≡ ranked answers (element_holds (meaning l.names.definitions.now (l.steps + m)) (shown l.scope) (shown_parent l.parent) (shown_tree l.tree)) (shown_chain l.chain)

abbrev pub invariant-constraints::all_hold-loop-constraint : goal.invariant-constraints::all_hold-loop-constraint
invariant-constraints::all_hold-loop-constraint l =
    ((m : ℕ) → both (known l.answer) (all_hold (meaning l.names.definitions.now (l.steps + m)) (shown l.scope) (shown_place l.head) (option_map shown_numbers l.numbers) (drop l.constraint-index l.constraints) (shown_tree l.tree))
    ≡ all_hold (meaning l.names.definitions.now (l.steps + m)) (shown l.scope) (shown_place l.head) (option_map shown_numbers l.initial.numbers) l.constraints (shown_tree l.tree))
    × ((m : ℕ) → narrowed_by_all (meaning l.names.definitions.now (l.steps + m)) (shown l.scope) (shown_place l.head) (option_map shown_numbers l.numbers) (drop l.constraint-index l.constraints)
    ≡ narrowed_by_all (meaning l.names.definitions.now (l.steps + m)) (shown l.scope) (shown_place l.head) (option_map shown_numbers l.initial.numbers) l.constraints)

abbrev pub invariant-elements::characters_hold-loop-character : goal.invariant-elements::characters_hold-loop-character
invariant-elements::characters_hold-loop-character l =
    (m : ℕ) →
    both (known l.answer) (characters_hold (meaning l.names.definitions.now (l.steps + m)) (shown l.scope) (shown_numbers l.codes) l.set (drop l.character-index l.characters))
    ≡ characters_hold (meaning l.names.definitions.now (l.steps + m)) (shown l.scope) (shown_numbers l.codes) l.set l.characters

abbrev pub invariant-elements::elements_hold-loop-element : goal.invariant-elements::elements_hold-loop-element
invariant-elements::elements_hold-loop-element l =
    (m : ℕ) →
    both (known l.answer) (trees_judged (part_holds (meaning l.names.definitions.now (l.steps + m)) (shown l.scope) (shown_place l.place) l.constraints) (shown_trees (drop l.element-index l.elements)))
    ≡ trees_judged (part_holds (meaning l.names.definitions.now (l.steps + m)) (shown l.scope) (shown_place l.place) l.constraints) (shown_trees l.elements)

abbrev pub invariant-components::listed_members_hold-loop-listed : goal.invariant-components::listed_members_hold-loop-listed
invariant-components::listed_members_hold-loop-listed l =
    (m : ℕ) →
    both (known l.answer) (each (listed_member_holds (meaning l.names.definitions.now (l.steps + m)) (shown l.scope) l.is_partial (shown_members l.members) (shown_fields l.fields)) (drop l.listed-index l.components))
    ≡ each (listed_member_holds (meaning l.names.definitions.now (l.steps + m)) (shown l.scope) l.is_partial (shown_members l.members) (shown_fields l.fields)) l.components

abbrev pub invariant-components::listed_options_hold-loop-listed : goal.invariant-components::listed_options_hold-loop-listed
invariant-components::listed_options_hold-loop-listed l =
    (m : ℕ) →
    both (known l.answer) (each (listed_option_holds (meaning l.names.definitions.now (l.steps + m)) (shown l.scope) (shown l.inside) l.options l.name (shown_tree l.tree)) (drop l.listed-index l.components))
    ≡ each (listed_option_holds (meaning l.names.definitions.now (l.steps + m)) (shown l.scope) (shown l.inside) l.options l.name (shown_tree l.tree)) l.components

abbrev pub invariant-accepting::accepts_on-loop-number : goal.invariant-accepting::accepts_on-loop-number
invariant-accepting::accepts_on-loop-number l =
    ((m : ℕ) → known l.held.answer
    ≡ stands_for (meaning l.names.definitions.now (l.steps - l.number + m)) (shown_tree l.tree) (place_at (shown_place l.place) (shown_targets l.targets) l.number)
    (lead l.names.definitions.now (meaning l.names.definitions.now (l.steps - l.number + m)) (place_at (shown_place l.place) (shown_targets l.targets) l.number)))
    × ((m : ℕ) → option_map shown_numbers l.held.numbers
    ≡ numbers_before l.names.definitions.now (meaning l.names.definitions.now (l.steps - l.number + m)) (place_at (shown_place l.place) (shown_targets l.targets) l.number))
