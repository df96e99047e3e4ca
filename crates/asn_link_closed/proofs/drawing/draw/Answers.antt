use Rattle.std.proofs.Common.{map}
use Rattle.asn_names_graph.proofs.Added.{definitions_more}
use Rattle.asn_link_closed.specs.Closed.{left_in}
use Rattle.asn_link_closed.proofs.drawing.draw.Goals as goal

pub loop-ty-preserved : goal.loop-ty-preserved
loop-ty-preserved c =
    definitions_more (map (λ n. n.now) c.args.names.now) left_in c.args.made.now c.loop-ty.ty-index c.ty-item.result c.loop-ty.builder c.add_made.new.builder
    c.loop-ty-test.true c.ty-item.is c.loop-ty.invariant c.in_ok-add_made.ensures
