use Rattle.std.proofs.Common.{◌≡◌, ◌++◌, drop, map}
use Rattle.asn_check_listing.specs.Parts.{joined}
use Rattle.asn_check_listing.specs.Words.{bit_text}
use Rattle.asn_check_listing.proofs.strings.write_bits.Given as goal

abbrev pub invariant-loop-bit : goal.invariant-loop-bit
invariant-loop-bit l = l.out ++ joined (map bit_text (drop l.bit-index l.bits)) ≡ l.initial.out ++ joined (map bit_text l.bits)
