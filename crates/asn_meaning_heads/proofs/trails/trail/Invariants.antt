use Rattle.std.proofs.Common.{◌≡◌, ℕ, ◌+◌}
use Rattle.asn_meaning_heads.specs.Places.{shown_place}
use Rattle.asn_meaning_heads.specs.Trails.{shown_targets, trail}
use Rattle.asn_meaning_heads.proofs.Trailing.{behind}
use Rattle.asn_meaning_heads.proofs.trails.trail.Given as goal

abbrev pub invariant-loop-left : goal.invariant-loop-left
invariant-loop-left l =
    (m : ℕ) → behind (shown_targets l.targets) (trail l.names.definitions.now (l.left + m) (shown_place l.at)) ≡ trail l.names.definitions.now (l.steps + m) (shown_place l.place)
