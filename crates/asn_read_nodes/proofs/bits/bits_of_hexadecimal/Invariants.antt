use Rattle.std.proofs.Common.{◌≡◌, ◌++◌, drop}
use Rattle.asn_read_nodes.specs.Bits.{hex_bits}
use Rattle.asn_read_nodes.proofs.bits.bits_of_hexadecimal.Given as goal

abbrev pub invariant-loop-byte : goal.invariant-loop-byte
invariant-loop-byte l = l.bits ++ hex_bits (drop l.byte-index l.bytes) ≡ hex_bits l.bytes
