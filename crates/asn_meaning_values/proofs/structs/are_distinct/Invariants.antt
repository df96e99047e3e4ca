use Rattle.std.proofs.Common.{◌≡◌, drop}
use Rattle.asn_meaning_values.proofs.Fielding.{names}
use Rattle.asn_meaning.specs.Denotes.{are_distinct}
use Rattle.asn_meaning_values.proofs.structs.are_distinct.Given as goal

abbrev pub invariant-loop-i : goal.invariant-loop-i
invariant-loop-i l = are_distinct (names (drop l.i l.fields)) ≡ are_distinct (names l.fields)
