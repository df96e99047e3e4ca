use Rattle.std.proofs.Common.{◌≡◌, drop}
use Rattle.asn_meaning_unchanged.specs.Unchanged.{bare_arcs, with_arcs}
use Rattle.asn_meaning_unchanged.proofs.literals.bare_arcs.Given as goal

abbrev pub invariant-loop-arc : goal.invariant-loop-arc
invariant-loop-arc l = with_arcs l.all (drop l.arc-index l.arcs) ≡ bare_arcs l.arcs
