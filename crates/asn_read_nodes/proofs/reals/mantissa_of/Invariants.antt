use Rattle.std.proofs.Common.{◌≡◌, ◌++◌, drop}
use Rattle.asn_rules_guards.specs.Guards.{mantissa}
use Rattle.asn_read_nodes.proofs.reals.mantissa_of.Given as goal

abbrev pub invariant-loop-byte : goal.invariant-loop-byte
invariant-loop-byte l = l.found ++ mantissa (drop l.byte-index l.bytes) ≡ mantissa l.bytes
