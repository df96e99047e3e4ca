use Rattle.std.proofs.Common.{map, take}
use Rattle.asn_names_graph.specs.inner.Edges.{AddsEdges}
use Rattle.asn_names_graph.proofs.drawing.add_references.Given as goal

abbrev pub invariant-loop-reference : goal.invariant-loop-reference
invariant-loop-reference l = AddsEdges (map (λ n. n.now) l.names) (map (λ n. n.now) (take l.reference-index l.references)) l.initial.builder l.builder
