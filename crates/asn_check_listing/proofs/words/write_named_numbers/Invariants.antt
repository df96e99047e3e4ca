use Rattle.std.proofs.Common.{◌≡◌, ◌++◌, [], drop, map, true}
use Rattle.std.specs.Prelude.{codes}
use Rattle.asn_check_listing.specs.Parts.{led, nothing}
use Rattle.asn_check_listing.specs.Words.{number_text}
use Rattle.asn_check_listing.proofs.words.write_named_numbers.Given as goal

abbrev pub invariant-loop-number : goal.invariant-loop-number
invariant-loop-number l = (l.out ++ led (codes " { ") (codes ", ") l.first (map number_text (drop l.number-index l.numbers)) ≡ l.initial.out ++ led (codes " { ") (codes ", ") true (map number_text l.numbers)) × (nothing l.first (map number_text (drop l.number-index l.numbers)) ≡ nothing true (map number_text l.numbers))
