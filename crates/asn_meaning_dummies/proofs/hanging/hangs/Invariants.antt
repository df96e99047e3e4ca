use Rattle.std.proofs.Common.{◌≡◌, ℕ, ◌+◌}
use Rattle.asn_meaning_heads.specs.Places.{shown_place}
use Rattle.asn_meaning.specs.Judge.{meaning}
use Rattle.asn_needs.specs.Dummies.{hangs}
use Rattle.asn_meaning_dummies.proofs.hanging.hangs.Given as goal

abbrev pub invariant-loop-left : goal.invariant-loop-left
invariant-loop-left l =
    (m : ℕ) → hangs l.names.definitions.now (meaning l.names.definitions.now (l.steps + m)) (l.left + m) (shown_place l.at)
    ≡ hangs l.names.definitions.now (meaning l.names.definitions.now (l.steps + m)) (l.steps + m) (shown_place l.place)
