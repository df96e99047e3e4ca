use Rattle.std.proofs.Common.{◌≡◌, ◌++◌, [], drop, map, true}
use Rattle.std.specs.Prelude.{codes}
use Rattle.asn_check_listing.specs.Parts.{led, nothing, with_marker}
use Rattle.asn_check_listing.specs.Words.{item_text}
use Rattle.asn_check_listing.proofs.words.write_items.Given as goal

abbrev pub invariant-loop-number : goal.invariant-loop-number
invariant-loop-number l = (l.out ++ led (codes " { ") (codes ", ") l.first (with_marker l.marker l.number (map item_text (drop l.number l.items))) ≡ l.initial.out ++ led (codes " { ") (codes ", ") true (with_marker l.marker 0 (map item_text l.items))) × (nothing l.first (with_marker l.marker l.number (map item_text (drop l.number l.items))) ≡ nothing true (with_marker l.marker 0 (map item_text l.items)))
