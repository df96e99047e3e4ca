use Rattle.std.proofs.Common.{◌≡◌, ◌++◌, drop}
use Rattle.asn_read_nodes.specs.Bits.{binary_bits}
use Rattle.asn_read_nodes.proofs.bits.bits_of_binary.Given as goal

abbrev pub invariant-loop-byte : goal.invariant-loop-byte
invariant-loop-byte l = l.bits ++ binary_bits (drop l.byte-index l.bytes) ≡ binary_bits l.bytes
