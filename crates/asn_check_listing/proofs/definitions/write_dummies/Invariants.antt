use Rattle.std.proofs.Common.{◌≡◌, ◌++◌, [], drop, map, true}
use Rattle.std.specs.Prelude.{codes}
use Rattle.asn_check_listing.specs.Parts.{led}
use Rattle.asn_check_listing.specs.Definitions.{dummy_text}
use Rattle.asn_check_listing.proofs.definitions.write_dummies.Given as goal

abbrev pub invariant-loop-dummy : goal.invariant-loop-dummy
invariant-loop-dummy l = l.out ++ led [] (codes ", ") l.first (map dummy_text (drop l.dummy-index l.dummies)) ≡ l.initial.out ++ led [] (codes ", ") true (map dummy_text l.dummies)
