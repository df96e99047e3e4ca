use Rattle.std.proofs.Common.{◌≡◌, ◌++◌, length}
use Rattle.asn_rules_guards.specs.Guards.{bare}
use Rattle.asn_read_nodes.proofs.bare.bare_bytes.Given as goal

abbrev pub invariant-loop-byte : goal.invariant-loop-byte
invariant-loop-byte l = l.found ++ bare l.rest ≡ bare l.bytes

abbrev pub decreases-loop-byte : goal.decreases-loop-byte
decreases-loop-byte l = length l.rest
