use Rattle.std.proofs.Common.{◌≡◌, ◌++◌, drop, map}
use Rattle.asn_names_references.specs.References.{arc_names}
use Rattle.asn_names_references.proofs.names.add_arcs.Given as goal

abbrev pub invariant-loop-arc : goal.invariant-loop-arc
invariant-loop-arc l = map (λ n. n.now) l.out ++ arc_names (drop l.arc-index l.arcs) l.wanted ≡ map (λ n. n.now) l.initial.out ++ arc_names l.arcs l.wanted
