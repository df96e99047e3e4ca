use Rattle.std.proofs.Common.{ap, map, subst, sym}
use Rattle.std.proofs.lemmas.List.{take_all}
use Rattle.asn_names_circles.specs.inner.Nodes.{IsAnyBack}
use Rattle.asn_names_circles.proofs.Circling.{more_back, none_back}
use Rattle.asn_names_circles.proofs.circles.is_any_back.Goals as goal

pub loop-name-init : goal.loop-name-init
loop-name-init c = none_back c.args.components.now.edges (map (λ n. n.now) c.args.names.now) c.args.node

pub loop-name-preserved : goal.loop-name-preserved
loop-name-preserved c =
    more_back c.args.components.now.edges (map (λ n. n.now) c.args.names.now) c.args.node (λ n. n.now) c.args.several.now c.loop-name.name-index c.name-item.result c.loop-name-test.true c.name-item.is
    c.loop-name.invariant (λ b. (let t = c.is_back.ensures.1 b in let f = c.if-is_back.false in absurd cc))

pub returns : goal.returns
returns c = (
  (λ t. absurd cc),
  (λ b. absurd (c.loop-name.invariant (subst (IsAnyBack c.args.components.now.edges (map (λ n. n.now) c.args.names.now) c.args.node)
      (ap (map (λ n. n.now)) (sym (take_all c.loop-name.name-index c.args.several.now c.loop-name-test.false))) b))),
)
