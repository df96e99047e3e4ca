use Rattle.std.proofs.Common.{◌≡◌, drop}
use Rattle.asn_meaning_values.specs.Bits.{shown_texts}
use Rattle.asn_meaning_values.specs.Braces.{shown_values}
use Rattle.asn_meaning_values.proofs.Listing.{before}
use Rattle.asn_meaning.specs.Rows.{reference_names}
use Rattle.asn_meaning_values.proofs.bits.reference_names.Given as goal

abbrev pub invariant-loop-value : goal.invariant-loop-value
invariant-loop-value l = before (shown_texts l.names) (reference_names (shown_values (drop l.value-index l.values))) ≡ reference_names (shown_values l.values)
