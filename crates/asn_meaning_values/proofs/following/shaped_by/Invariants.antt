use Rattle.std.proofs.Common.{◌≡◌, ℕ, take}
use Rattle.asn_meaning_heads.specs.Spans.{further}
use Rattle.asn_meaning_values.specs.Denotation.{shown_denotation}
use Rattle.asn_meaning_values.specs.inner.Following.{shaped_by}
use Rattle.asn_meaning_values.proofs.following.shaped_by.Given as goal

abbrev pub invariant-loop-i : goal.invariant-loop-i
invariant-loop-i l =
    (m : ℕ) →
    shaped_by l.names.definitions.now (further l.span m) (take l.i l.wanted) (shown_denotation l.denoted)
    ≡ shaped_by l.names.definitions.now (further l.span m) l.wanted (shown_denotation l.initial.denoted)
