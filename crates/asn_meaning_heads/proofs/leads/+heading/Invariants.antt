use Rattle.std.proofs.Common.{◌≡◌, ℕ, ◌+◌, ◌*◌}
use Rattle.asn_meaning_heads.specs.Places.{shown_place}
use Rattle.asn_meaning_heads.specs.Spans.{further}
use Rattle.asn_meaning.specs.Judge.{meaning}
use Rattle.asn_meaning_heads.proofs.leads.+heading.Given as goal

abbrev pub decreases-selection_target_over : goal.decreases-selection_target_over
decreases-selection_target_over l = 4 * l.steps + 2

abbrev pub decreases-lead_over : goal.decreases-lead_over
decreases-lead_over l = 4 * l.steps + 3

abbrev pub decreases-head_over : goal.decreases-head_over
decreases-head_over l = 4 * l.steps

abbrev pub decreases-head_named_over : goal.decreases-head_named_over
decreases-head_named_over l = 4 * l.steps + 1

abbrev pub invariant-head_over-loop-left : goal.invariant-head_over-loop-left
invariant-head_over-loop-left l =
    (m : ℕ) → (meaning l.names.definitions.now (l.left + further l.span m)).head (shown_place l.at) ≡ (meaning l.names.definitions.now (l.steps + further l.span m)).head (shown_place l.place)
