-- For which numbers of steps an answer holds.
use Rattle.asn_meaning_heads.specs.declared.spans.Span.TheVariants.{Further, These}
use Rattle.asn_meaning_heads.specs.declared.spans.Span.{Span}
use Rattle.std.specs.Prelude.{ℕ}

-- so many further steps, where an answer holds for further ones at all
abbrev pub further : Span → ℕ → ℕ
further Further m = m
further These m = 0
