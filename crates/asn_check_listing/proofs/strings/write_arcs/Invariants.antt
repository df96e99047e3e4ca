use Rattle.std.proofs.Common.{◌≡◌, ◌++◌, [], drop, map, true}
use Rattle.std.specs.Prelude.{codes}
use Rattle.asn_check_listing.specs.Parts.{led}
use Rattle.asn_check_listing.specs.Words.{arc_text}
use Rattle.asn_check_listing.proofs.strings.write_arcs.Given as goal

abbrev pub invariant-loop-arc : goal.invariant-loop-arc
invariant-loop-arc l = l.out ++ led [] (codes " ") l.first (map arc_text (drop l.arc-index l.arcs)) ≡ l.initial.out ++ led [] (codes " ") true (map arc_text l.arcs)
