use Rattle.std.proofs.Common.{◌≡◌, ℕ, ◌+◌, ◌*◌, drop}
use Rattle.asn_meaning_heads.specs.Places.{shown_place}
use Rattle.asn_meaning_heads.specs.Scopes.{shown}
use Rattle.asn_meaning_heads.specs.Values.{shown_value}
use Rattle.asn_meaning_shapes.specs.Members.{shown_members}
use Rattle.asn_meaning_values.proofs.Denoting.{fields_from, trees_from}
use Rattle.asn_meaning_values.proofs.Joining.{ahead, in_front}
use Rattle.asn_meaning_values.specs.inner.Following.{shaped_by}
use Rattle.asn_meaning_values.specs.inner.Gathering.{shown_elements, shown_parts}
use Rattle.asn_meaning_values.specs.inner.Reading.{shown_read}
use Rattle.asn_meaning.specs.Answers.{together}
use Rattle.asn_meaning.specs.Denotes.{read_denoted}
use Rattle.asn_meaning.specs.Judge.{meaning}
use Rattle.asn_meaning_values.proofs.values.+denoting.Given as goal

abbrev pub decreases-denotes : goal.decreases-denotes
decreases-denotes l = 11 * l.steps

abbrev pub decreases-field_denoted : goal.decreases-field_denoted
decreases-field_denoted l = 11 * l.steps + 1

abbrev pub decreases-trees_denoted : goal.decreases-trees_denoted
decreases-trees_denoted l = 11 * l.steps + 1

abbrev pub decreases-choice_row : goal.decreases-choice_row
decreases-choice_row l = 11 * l.steps + 1

abbrev pub decreases-fields_denoted : goal.decreases-fields_denoted
decreases-fields_denoted l = 11 * l.steps + 2

abbrev pub decreases-list_row : goal.decreases-list_row
decreases-list_row l = 11 * l.steps + 2

abbrev pub decreases-struct_denoted : goal.decreases-struct_denoted
decreases-struct_denoted l = 11 * l.steps + 3

abbrev pub decreases-struct_row : goal.decreases-struct_row
decreases-struct_row l = 11 * l.steps + 4

abbrev pub decreases-parts_row : goal.decreases-parts_row
decreases-parts_row l = 11 * l.steps + 5

abbrev pub decreases-written_denoted : goal.decreases-written_denoted
decreases-written_denoted l = 11 * l.steps + 6

abbrev pub decreases-row_next : goal.decreases-row_next
decreases-row_next l = 11 * l.steps + 7

abbrev pub decreases-value_next : goal.decreases-value_next
decreases-value_next l = 11 * l.steps + 8

abbrev pub decreases-next_under : goal.decreases-next_under
decreases-next_under l = 11 * l.steps + 9

abbrev pub decreases-next_of : goal.decreases-next_of
decreases-next_of l = 11 * l.steps + 10

abbrev pub invariant-denotes-loop-left : goal.invariant-denotes-loop-left
invariant-denotes-loop-left l =
    (m : ℕ) →
    shaped_by l.names.definitions.now m l.wanted (read_denoted (meaning l.names.definitions.now (l.left + m)) (shown_read l.read))
    ≡ (meaning l.names.definitions.now (l.steps + m)).denotes (shown l.scope) (shown_value l.value) (shown_place l.place)

abbrev pub invariant-fields_denoted-loop-field : goal.invariant-fields_denoted-loop-field
invariant-fields_denoted-loop-field l =
    (m : ℕ) →
    together ahead (shown_parts l.parts) (fields_from (meaning l.names.definitions.now (l.steps + m)) (shown l.scope) (shown_members l.members) (drop l.field-index l.fields))
    ≡ fields_from (meaning l.names.definitions.now (l.steps + m)) (shown l.scope) (shown_members l.members) l.fields

abbrev pub invariant-trees_denoted-loop-value : goal.invariant-trees_denoted-loop-value
invariant-trees_denoted-loop-value l =
    (m : ℕ) →
    together in_front (shown_elements l.elements) (trees_from (meaning l.names.definitions.now (l.steps + m)) (shown l.scope) (shown_place l.place) (drop l.value-index l.values))
    ≡ trees_from (meaning l.names.definitions.now (l.steps + m)) (shown l.scope) (shown_place l.place) l.values
