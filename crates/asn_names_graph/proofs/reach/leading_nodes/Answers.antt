use Rattle.std.proofs.Common.{◌+◌, ◌<◌, ◌∙◌, ap, get_or, length, subst, sym}
use Rattle.asn_names_graph.specs.inner.Spread.{AreSpread, IsClosed}
use Rattle.asn_names_graph.proofs.Needs.{edge_from}
use Rattle.asn_names_graph.proofs.Reaching.{all_leading, edges_same, order_within, spread_again}
use Rattle.asn_names_graph.proofs.reach.leading_nodes.Goals as goal

pub tell_more-requires-clause-nodes : goal.tell_more-requires-clause-nodes
tell_more-requires-clause-nodes c = λ i h.
    subst (λ starts. get_or c.order.result.now i 0 + 1 < length starts) (sym (c.starts-starts.ensures.value ∙ ap (λ e. e.starts) c.graph.ensures))
    (order_within c.args.components.now.edges c.order.result.now c.order.ensures i h)

pub loop-starts-preserved : goal.loop-starts-preserved
loop-starts-preserved c =
    let g = c.args.components.now.edges in
    let starts = c.starts-starts.ensures.value ∙ ap (λ e. e.starts) c.graph.ensures in
    let same = edges_same g c.starts-starts.result.now c.targets-targets.result.now starts (c.targets-targets.ensures ∙ ap (λ e. e.targets) c.graph-2.ensures) in
    record {
      long = c.tell_more.ensures.long ∙ ap length starts;
      spread =
          spread_again g c.args.marked.now c.loop-starts.told.items c.tell_more.new.told.items c.loop-starts.invariant.spread
          (subst (λ e. AreSpread e c.loop-starts.told.items c.tell_more.new.told.items) same c.tell_more.ensures.spread);
    }

pub returns : goal.returns
returns c =
    let g = c.args.components.now.edges in
    let starts = c.starts-starts.ensures.value ∙ ap (λ e. e.starts) c.graph.ensures in
    let same = edges_same g c.starts-starts.result.now c.targets-targets.result.now starts (c.targets-targets.ensures ∙ ap (λ e. e.targets) c.graph-2.ensures) in
    let ended = c.tell_more.ensures.none (λ t. (let f = c.loop-starts-test.false in absurd cc)) in
    let spread =
    spread_again g c.args.marked.now c.loop-starts.told.items c.tell_more.new.told.items c.loop-starts.invariant.spread
    (subst (λ e. AreSpread e c.loop-starts.told.items c.tell_more.new.told.items) same c.tell_more.ensures.spread) in
    all_leading g c.args.marked.now c.tell_more.new.told.items c.order.result.now c.order.ensures spread
    (subst (λ e. IsClosed e c.order.result.now c.tell_more.new.told.items) same ended.1) (edge_from g) (c.tell_more.ensures.long ∙ ap length starts)
