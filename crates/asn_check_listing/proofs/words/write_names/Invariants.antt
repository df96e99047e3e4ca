use Rattle.std.proofs.Common.{◌≡◌, ◌++◌, [], drop, true}
use Rattle.std.specs.Prelude.{codes}
use Rattle.asn_check_listing.specs.Parts.{led}
use Rattle.asn_check_listing.proofs.words.write_names.Given as goal

abbrev pub invariant-loop-name : goal.invariant-loop-name
invariant-loop-name l = l.out ++ led [] (codes ", ") l.first (drop l.name-index l.names) ≡ l.initial.out ++ led [] (codes ", ") true l.names
