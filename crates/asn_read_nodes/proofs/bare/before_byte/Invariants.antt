use Rattle.std.proofs.Common.{◌≡◌, ◌++◌, drop}
use Rattle.asn_rules_guards.specs.Guards.{before}
use Rattle.asn_read_nodes.proofs.bare.before_byte.Given as goal

abbrev pub invariant-loop-byte : goal.invariant-loop-byte
invariant-loop-byte l = l.found ++ before l.mark (drop l.byte-index l.bytes) ≡ before l.mark l.bytes
