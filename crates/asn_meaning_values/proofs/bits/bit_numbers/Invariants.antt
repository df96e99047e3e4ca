use Rattle.std.proofs.Common.{◌≡◌, drop}
use Rattle.asn_meaning_values.proofs.Listing.{before}
use Rattle.asn_meaning.specs.Rows.{bit_numbers}
use Rattle.asn_meaning_values.proofs.bits.bit_numbers.Given as goal

abbrev pub invariant-loop-bit : goal.invariant-loop-bit
invariant-loop-bit l = before l.numbers (bit_numbers (drop l.bit-index l.bits)) ≡ bit_numbers l.bits
