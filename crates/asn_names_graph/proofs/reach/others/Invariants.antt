use Rattle.std.proofs.Common.{◌≡◌, ◌++◌, drop, map}
use Rattle.std.specs.Prelude.{not}
use Rattle.asn_names_graph.proofs.reach.others.Given as goal

abbrev pub invariant-loop-leads : goal.invariant-loop-leads
invariant-loop-leads l = l.others ++ map not (drop l.leads-index l.leading) ≡ map not l.leading
