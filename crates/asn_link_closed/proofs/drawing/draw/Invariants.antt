use Rattle.std.proofs.Common.{map, take}
use Rattle.asn_names_graph.specs.Drawn.{IsDrawn}
use Rattle.asn_link_closed.specs.Closed.{left_in}
use Rattle.asn_link_closed.proofs.drawing.draw.Given as goal

abbrev pub invariant-loop-ty : goal.invariant-loop-ty
invariant-loop-ty l = IsDrawn (map (λ n. n.now) l.names) (map left_in (take l.ty-index l.made)) l.builder
