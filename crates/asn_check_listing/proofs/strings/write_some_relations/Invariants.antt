use Rattle.std.proofs.Common.{◌≡◌, ◌++◌, [], drop, map, true}
use Rattle.std.specs.Prelude.{codes}
use Rattle.asn_check_listing.specs.Parts.{led}
use Rattle.asn_check_listing.specs.Words.{relation_text}
use Rattle.asn_check_listing.proofs.strings.write_some_relations.Given as goal

abbrev pub invariant-loop-relation : goal.invariant-loop-relation
invariant-loop-relation l = l.out ++ led [] (codes ", ") l.first (map relation_text (drop l.relation-index l.relations)) ≡ l.initial.out ++ led [] (codes ", ") true (map relation_text l.relations)
