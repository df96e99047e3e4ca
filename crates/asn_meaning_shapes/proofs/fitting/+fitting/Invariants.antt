use Rattle.std.proofs.Common.{◌≡◌, ℕ, ◌+◌, ◌*◌, drop}
use Rattle.asn_meaning_heads.specs.Places.{shown_place}
use Rattle.asn_meaning_heads.specs.Spans.{further}
use Rattle.asn_meaning_shapes.specs.Answers.{known}
use Rattle.asn_meaning_shapes.specs.inner.Fitting.{member_fits}
use Rattle.asn_meaning_shapes.specs.Trees.{shown_fields, shown_trees}
use Rattle.asn_meaning_shapes.proofs.Judging.{from}
use Rattle.asn_meaning.specs.Answers.{both}
use Rattle.asn_meaning.specs.Judge.{meaning}
use Rattle.asn_meaning.specs.Shapes.{trees_judged}
use Rattle.asn_meaning_shapes.proofs.fitting.+fitting.Given as goal

abbrev pub decreases-fits_over : goal.decreases-fits_over
decreases-fits_over l = 8 * l.steps

abbrev pub decreases-member_fits : goal.decreases-member_fits
decreases-member_fits l = 8 * l.steps + 1

abbrev pub decreases-members_fit : goal.decreases-members_fit
decreases-members_fit l = 8 * l.steps + 2

abbrev pub decreases-fields_fit : goal.decreases-fields_fit
decreases-fields_fit l = 8 * l.steps + 3

abbrev pub decreases-elements_fit : goal.decreases-elements_fit
decreases-elements_fit l = 8 * l.steps + 3

abbrev pub decreases-struct_fits : goal.decreases-struct_fits
decreases-struct_fits l = 8 * l.steps + 4

abbrev pub decreases-list_fits : goal.decreases-list_fits
decreases-list_fits l = 8 * l.steps + 4

abbrev pub decreases-choice_fits : goal.decreases-choice_fits
decreases-choice_fits l = 8 * l.steps + 4

abbrev pub decreases-parts_fit : goal.decreases-parts_fit
decreases-parts_fit l = 8 * l.steps + 5

abbrev pub decreases-head_fits : goal.decreases-head_fits
decreases-head_fits l = 8 * l.steps + 6

abbrev pub decreases-fits_at : goal.decreases-fits_at
decreases-fits_at l = 8 * l.steps + 7

abbrev pub invariant-members_fit-loop-member : goal.invariant-members_fit-loop-member
invariant-members_fit-loop-member l =
    (m : ℕ) → both (known l.answer) (from (member_fits (meaning l.names.definitions.now (l.steps + further l.span m))) (shown_fields l.fields.fields.now) (drop l.member-index l.members))
    ≡ from (member_fits (meaning l.names.definitions.now (l.steps + further l.span m))) (shown_fields l.fields.fields.now) l.members

abbrev pub invariant-elements_fit-loop-element : goal.invariant-elements_fit-loop-element
invariant-elements_fit-loop-element l =
    (m : ℕ) → both (known l.answer) (trees_judged ((meaning l.names.definitions.now (l.steps + further l.span m)).fits (shown_place l.place)) (shown_trees (drop l.element-index l.elements)))
    ≡ trees_judged ((meaning l.names.definitions.now (l.steps + further l.span m)).fits (shown_place l.place)) (shown_trees l.elements)
