use Rattle.std.proofs.Common.{map}
use Rattle.asn_names_graph.proofs.Added.{references_more}
use Rattle.asn_names_graph.proofs.drawing.add_references.Goals as goal

pub loop-reference-preserved : goal.loop-reference-preserved
loop-reference-preserved c =
    let loop = c.loop-reference in
    references_more (map (λ n. n.now) c.args.names.now) (λ n. n.now) c.args.references.now loop.reference-index c.reference-item.result
    c.args.builder.now loop.builder c.add_reference.new.builder c.loop-reference-test.true c.reference-item.is loop.invariant c.in_ok-add_reference.ensures
