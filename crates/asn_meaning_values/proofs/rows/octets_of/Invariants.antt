use Rattle.std.proofs.Common.{◌≡◌, ◌*◌, drop}
use Rattle.asn_meaning_values.proofs.Listing.{before}
use Rattle.asn_meaning.specs.Rows.{octets_of}
use Rattle.asn_meaning_values.proofs.rows.octets_of.Given as goal

abbrev pub invariant-loop-i : goal.invariant-loop-i
invariant-loop-i l = before l.octets (octets_of (drop (8 * l.i) l.bits)) ≡ octets_of l.bits
