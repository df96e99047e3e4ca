use Rattle.std.proofs.Common.{map, take}
use Rattle.asn_names_circles.specs.inner.Nodes.{IsAnyBack}
use Rattle.asn_names_circles.proofs.circles.is_any_back.Given as goal

abbrev pub invariant-loop-name : goal.invariant-loop-name
invariant-loop-name l = IsAnyBack l.components.edges (map (λ n. n.now) l.names) l.node (map (λ n. n.now) (take l.name-index l.several)) → ⊥
