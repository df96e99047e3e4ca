use Rattle.std.proofs.Common.{◌≡◌, ℕ, ◌+◌, ◌*◌}
use Rattle.asn_meaning_heads.specs.Places.{shown_place}
use Rattle.asn_meaning_heads.specs.Scopes.{shown}
use Rattle.asn_meaning_heads.specs.Spans.{further}
use Rattle.asn_meaning_heads.specs.Values.{shown_value}
use Rattle.asn_meaning_values.specs.Leaves.{leaf}
use Rattle.asn_meaning_values.specs.inner.Following.{shaped_by}
use Rattle.asn_meaning_values.specs.inner.Reading.{shown_read}
use Rattle.asn_meaning.specs.Denotes.{read_denoted}
use Rattle.asn_meaning.specs.Judge.{meaning}
use Rattle.asn_meaning_values.proofs.leaves.+leaving.Given as goal

abbrev pub decreases-leaf_over : goal.decreases-leaf_over
decreases-leaf_over l = 4 * l.steps

abbrev pub decreases-leaf_value : goal.decreases-leaf_value
decreases-leaf_value l = 4 * l.steps + 1

abbrev pub decreases-leaf_under : goal.decreases-leaf_under
decreases-leaf_under l = 4 * l.steps + 2

abbrev pub decreases-leaf_next : goal.decreases-leaf_next
decreases-leaf_next l = 4 * l.steps + 3

abbrev pub invariant-leaf_over-loop-left : goal.invariant-leaf_over-loop-left
invariant-leaf_over-loop-left l =
    (m : ℕ) →
    leaf (shaped_by l.names.definitions.now (further l.span m) l.wanted (read_denoted (meaning l.names.definitions.now (l.left + further l.span m)) (shown_read l.read)))
    ≡ leaf ((meaning l.names.definitions.now (l.steps + further l.span m)).denotes (shown l.scope) (shown_value l.value) (shown_place l.place))
