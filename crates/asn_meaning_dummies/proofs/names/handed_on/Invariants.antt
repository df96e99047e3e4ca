use Rattle.std.proofs.Common.{◌≡◌, ℕ, ◌+◌}
use Rattle.asn_meaning_heads.specs.Scopes.{shown_argument}
use Rattle.asn_needs.specs.Dummies.{handed_on}
use Rattle.asn_meaning_dummies.proofs.names.handed_on.Given as goal

abbrev pub invariant-loop-left : goal.invariant-loop-left
invariant-loop-left l = (m : ℕ) → handed_on (l._left + m) (shown_argument l.at) ≡ handed_on (l.steps + m) (shown_argument l.argument)
