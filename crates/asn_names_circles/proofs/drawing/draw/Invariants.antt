use Rattle.std.proofs.Common.{map, take}
use Rattle.asn_names_graph.specs.Drawn.{IsDrawn}
use Rattle.asn_names_circles.proofs.drawing.draw.Given as goal

abbrev pub invariant-loop-mentioned : goal.invariant-loop-mentioned
invariant-loop-mentioned l = IsDrawn (map (λ n. n.now) l.names) (map (map (λ n. n.now)) (take l.mentioned-index l.lists)) l.builder
