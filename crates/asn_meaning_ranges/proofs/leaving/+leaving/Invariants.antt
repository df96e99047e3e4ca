use Rattle.std.proofs.Common.{◌≡◌, ℕ, ◌+◌, ◌-◌, ◌*◌, drop}
use Rattle.std.specs.Option.{option_map}
use Rattle.std.specs.Prelude.{map}
use Rattle.asn_meaning_heads.specs.Places.{shown_place}
use Rattle.asn_meaning_heads.specs.Scopes.{shown}
use Rattle.asn_meaning_heads.specs.Trails.{place_at, shown_targets}
use Rattle.asn_meaning_ranges.specs.Chains.{shown_chain, shown_joined}
use Rattle.asn_meaning_ranges.specs.Parents.{shown_parent}
use Rattle.asn_meaning_ranges.specs.Sets.{shown_numbers}
use Rattle.asn_meaning_ranges.specs.inner.Joining.{numbers_of_element, ranked_behind, shown_ranks}
use Rattle.asn_meaning.specs.Judge.{meaning}
use Rattle.asn_meaning.specs.Numbers.{number_sets, ranked}
use Rattle.asn_meaning.specs.Ranges.{narrowed_by_all, numbers_before}
use Rattle.asn_meaning_ranges.proofs.leaving.+leaving.Given as goal

abbrev pub decreases-numbers : goal.decreases-numbers
decreases-numbers l = 10 * l.steps

abbrev pub decreases-numbers_of_type : goal.decreases-numbers_of_type
decreases-numbers_of_type l = 10 * l.steps + 1

abbrev pub decreases-numbers_at_element : goal.decreases-numbers_at_element
decreases-numbers_at_element l = 10 * l.steps + 2

abbrev pub decreases-numbers_joined : goal.decreases-numbers_joined
decreases-numbers_joined l = 10 * l.steps + 3

abbrev pub decreases-numbers_in_set : goal.decreases-numbers_in_set
decreases-numbers_in_set l = 10 * l.steps + 4

abbrev pub decreases-narrowed : goal.decreases-narrowed
decreases-narrowed l = 10 * l.steps + 5

abbrev pub decreases-narrowed_by_all : goal.decreases-narrowed_by_all
decreases-narrowed_by_all l = 10 * l.steps + 6

abbrev pub decreases-numbers_under : goal.decreases-numbers_under
decreases-numbers_under l = 10 * l.steps + 7

abbrev pub decreases-numbers_on : goal.decreases-numbers_on
decreases-numbers_on l = 10 * l.steps + 8

abbrev pub decreases-numbers_at : goal.decreases-numbers_at
decreases-numbers_at l = 10 * l.steps + 9

abbrev pub invariant-narrowed_by_all-loop-constraint : goal.invariant-narrowed_by_all-loop-constraint
invariant-narrowed_by_all-loop-constraint l =
    (m : ℕ) →
    narrowed_by_all (meaning l.names.definitions.now (l.steps + m)) (shown l.scope) (shown_place l.head) (option_map shown_numbers l.left) (drop l.constraint-index l.constraints)
    ≡ narrowed_by_all (meaning l.names.definitions.now (l.steps + m)) (shown l.scope) (shown_place l.head) (option_map shown_numbers l.fn.numbers) l.constraints

abbrev pub invariant-numbers_joined-loop-other : goal.invariant-numbers_joined-loop-other
invariant-numbers_joined-loop-other l =
    (m : ℕ) →
    ranked_behind (numbers_of_element (meaning l.names.definitions.now (l.steps + m)) (shown l.scope) (shown_parent l.parent)) (shown_ranks l.ranks) (map shown_joined (drop l.other-index l.others))
    ≡ ranked number_sets (numbers_of_element (meaning l.names.definitions.now (l.steps + m)) (shown l.scope) (shown_parent l.parent)) (shown_chain l.elements)

abbrev pub invariant-numbers_on-loop-number : goal.invariant-numbers_on-loop-number
invariant-numbers_on-loop-number l =
    (m : ℕ) → option_map shown_numbers l.numbers
    ≡ numbers_before l.names.definitions.now (meaning l.names.definitions.now (l.steps - l.number + m)) (place_at (shown_place l.place) (shown_targets l.targets) l.number)
