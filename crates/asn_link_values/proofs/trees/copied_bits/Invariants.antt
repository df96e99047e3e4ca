use Rattle.std.proofs.Common.{◌≡◌, ◌++◌, drop}
use Rattle.asn_link_values.proofs.trees.copied_bits.Given as goal

abbrev pub invariant-loop-bit : goal.invariant-loop-bit
invariant-loop-bit l = l.copied ++ drop l.bit-index l.bits ≡ l.bits
