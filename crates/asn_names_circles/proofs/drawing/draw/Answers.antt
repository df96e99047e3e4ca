use Rattle.std.proofs.Common.{map, subst}
use Rattle.asn_names_graph.specs.Drawn.{AddsNode}
use Rattle.asn_names_graph.proofs.Added.{definitions_more}
use Rattle.asn_names_circles.proofs.drawing.draw.Goals as goal

pub loop-mentioned-preserved : goal.loop-mentioned-preserved
loop-mentioned-preserved c =
    let loop = c.loop-mentioned in
    definitions_more (map (λ n. n.now) c.args.names.now) (map (λ n. n.now)) c.args.lists.now loop.mentioned-index c.mentioned-item.result
    loop.builder c.add_mentions.new.builder c.loop-mentioned-test.true c.mentioned-item.is loop.invariant
    (subst (λ ns. AddsNode (map (λ n. n.now) c.args.names.now) (map (λ n. n.now) ns) loop.builder c.add_mentions.new.builder) c.as_slice.ensures c.in_ok-add_mentions.ensures)
