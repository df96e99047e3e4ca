use Rattle.std.proofs.Common.{◌≡◌, ℕ, ◌+◌}
use Rattle.asn_meaning_heads.specs.Places.{shown_place}
use Rattle.asn_meaning_heads.specs.Scopes.{shown}
use Rattle.asn_meaning_heads.specs.Spans.{further}
use Rattle.asn_meaning_heads.specs.Values.{shown_value}
use Rattle.asn_meaning_values.specs.inner.Reading.{shown_read}
use Rattle.asn_meaning.specs.Everything.{read_is_all}
use Rattle.asn_meaning.specs.Judge.{meaning}
use Rattle.asn_meaning_values.proofs.everything.is_all_over.Given as goal

abbrev pub invariant-loop-left : goal.invariant-loop-left
invariant-loop-left l =
    (m : ℕ) →
    read_is_all (meaning l.names.definitions.now (l.left + further l.span m)) (shown_read l.read)
    ≡ (meaning l.names.definitions.now (l.steps + further l.span m)).is_all (shown l.scope) (shown_value l.value) (shown_place l.place)
