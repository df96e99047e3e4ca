use Rattle.std.proofs.Common.{◌≡◌, ◌++◌, drop}
use Rattle.asn_meaning_values.proofs.rows.copied_arcs.Given as goal

abbrev pub invariant-loop-arc : goal.invariant-loop-arc
invariant-loop-arc l = l.copied ++ drop l.arc-index l.arcs ≡ l.arcs
