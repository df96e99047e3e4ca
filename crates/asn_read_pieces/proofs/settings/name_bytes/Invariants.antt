use Rattle.std.proofs.Common.{◌≡◌, ◌++◌, length}
use Rattle.asn_rules_guards.specs.Guards.{bare, before}
use Rattle.asn_read_pieces.proofs.settings.name_bytes.Given as goal

abbrev pub invariant-loop-byte : goal.invariant-loop-byte
invariant-loop-byte l = l.found ++ before 61 (bare l.rest) ≡ before 61 (bare l.bytes)

abbrev pub decreases-loop-byte : goal.decreases-loop-byte
decreases-loop-byte l = length l.rest
