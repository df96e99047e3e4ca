use Rattle.std.proofs.Common.{◌≡◌, ◌++◌, drop, map}
use Rattle.asn_check_listing.specs.Parts.{joined}
use Rattle.asn_check_listing.specs.Words.{octet_text}
use Rattle.asn_check_listing.proofs.strings.write_octets.Given as goal

abbrev pub invariant-loop-octet : goal.invariant-loop-octet
invariant-loop-octet l = l.out ++ joined (map octet_text (drop l.octet-index l.octets)) ≡ l.initial.out ++ joined (map octet_text l.octets)
