use Rattle.std.proofs.Common.{◌≡◌, ◌++◌, [], drop, map, true}
use Rattle.std.specs.Prelude.{codes}
use Rattle.asn_check_listing.specs.Parts.{led}
use Rattle.asn_check_listing.specs.Words.{pair_text}
use Rattle.asn_check_listing.proofs.strings.write_settings.Given as goal

abbrev pub invariant-loop-pair : goal.invariant-loop-pair
invariant-loop-pair l = l.out ++ led [] (codes " ") l.first (map pair_text (drop l.pair-index l.pairs)) ≡ l.initial.out ++ led [] (codes " ") true (map pair_text l.pairs)
