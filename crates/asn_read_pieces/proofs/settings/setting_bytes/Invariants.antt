use Rattle.std.proofs.Common.{◌≡◌, ◌++◌, cond, length}
use Rattle.asn_rules_guards.specs.Guards.{bare, behind}
use Rattle.asn_read_pieces.proofs.settings.setting_bytes.Given as goal

abbrev pub invariant-loop-byte : goal.invariant-loop-byte
invariant-loop-byte l = l.found ++ cond l.is_behind (bare l.rest) (behind 61 (bare l.rest)) ≡ behind 61 (bare l.bytes)

abbrev pub decreases-loop-byte : goal.decreases-loop-byte
decreases-loop-byte l = length l.rest
