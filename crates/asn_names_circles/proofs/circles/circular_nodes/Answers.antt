use Rattle.std.proofs.Common.{◌+◌, ap, length, ◌∙◌, arith}
use Rattle.std.proofs.lemmas.List.{length-append}
use Rattle.asn_names_circles.proofs.Circling.{circular_all, circular_more}
use Rattle.asn_names_circles.proofs.circles.circular_nodes.Goals as goal

pub bounds-gentle-node : goal.bounds-gentle-node
bounds-gentle-node c = omega (arith, c.loop-node-test.true, c.requires.gentle)

pub is_circular-requires-clause-long : goal.is_circular-requires-clause-long
is_circular-requires-clause-long c = omega (arith, c.requires.named, c.requires.long)

pub is_circular-requires-clause-node : goal.is_circular-requires-clause-node
is_circular-requires-clause-node c = omega (arith, c.loop-node-test.true, c.requires.long)

pub is_circular-requires-clause-on : goal.is_circular-requires-clause-on
is_circular-requires-clause-on c = omega (arith, c.loop-node-test.true, c.requires.on)

pub loop-node-preserved : goal.loop-node-preserved
loop-node-preserved c = record {
  long = ap length c.in_ok-add.ensures.ok ∙ length-append c.loop-node.marked _ ∙ ap (λ n. n + 1) c.loop-node.invariant.long;
  each =
      circular_more (λ d. d.now) (λ n. n.now) c.args.on.now.edges c.args.components.now.edges c.args.names.now c.args.definitions.now c.args.gentle.now
      c.loop-node.marked c.add.new.self c.loop-node.node c.index-definitions-node.result c.in_ok-told.told
      c.loop-node.invariant.long c.loop-node-test.true c.index-definitions-node.is c.in_ok-add.ensures.ok
      c.in_ok-told.ensures c.loop-node.invariant.each;
}

pub returns : goal.returns
returns c =
    circular_all (λ d. d.now) (λ n. n.now) c.args.on.now.edges c.args.components.now.edges c.args.names.now c.args.definitions.now c.args.gentle.now
    c.loop-node.marked c.loop-node.node c.loop-node.invariant.long
    (omega (arith, c.loop-node-test.false, c.loop-node.auto.node-end)) c.loop-node.invariant.each
