use Rattle.std.proofs.Common.{◌≡◌, drop}
use Rattle.asn_meaning_values.specs.Bits.{shown_texts}
use Rattle.asn_meaning_values.proofs.Listing.{before}
use Rattle.asn_meaning.specs.Rows.{numbers_of_names}
use Rattle.asn_meaning_values.proofs.bits.numbers_of_names.Given as goal

abbrev pub invariant-loop-name : goal.invariant-loop-name
invariant-loop-name l = before l.numbers (numbers_of_names l.bits (shown_texts (drop l.name-index l.names))) ≡ numbers_of_names l.bits (shown_texts l.names)
