use Rattle.std.proofs.Common.{◌≡◌, ◌+◌, ◌<◌, get_or, length, true, ap, sym, subst, ◌∙◌, arith}
use Rattle.std.proofs.Math.ListN.{set}
use Rattle.std.proofs.lemmas.List.{length-set}
use Rattle.asn_names_graph.specs.Graphs.{edges_of}
use Rattle.asn_names_graph.specs.Reach.{IsMarked}
use Rattle.asn_names_graph.specs.inner.Spread.{AreSpread, LeadsOn, missing}
use Rattle.asn_names_graph.proofs.Reaching.{closed_more, fewer_left, missing_less, spread_on}
use Rattle.asn_names_graph.proofs.reach.tell_more.Goals as goal
use Rattle.asn_names_graph.proofs.reach.tell_more.Goals.{then-is_next, else-is_next}

pub loop-node-preserved : goal.loop-node-preserved
loop-node-preserved c =
    let g = edges_of c.args.starts.now c.args.targets.now in
    let order = c.args.order.now in
    let first = c.args.told.now.items in
    let told = c.loop-node.told.items in
    let at = c.loop-node.node-index in
    let node = get_or order at 0 in
    let before = c.loop-node.invariant in
    elim c.if-is_next.branch [
      | then-is_next w ↦
          let is = ap (λ v. v.items) w.told-is in
          let within : node < length told = (let k = c.requires.nodes at c.loop-node-test.true in let l : length told + 1 ≡ length c.args.starts.now = before.long in omega (arith, k, l)) in
          let found = subst (λ t. LeadsOn g t node × (IsMarked t node → ⊥)) c.as_slice.ensures.value (c.is_next.ensures.is w.if-is_next.true) in
          let less = missing_less told node within found.1 in
          record {
            long = ap (λ t. length t + 1) is ∙ ap (λ n. n + 1) (length-set told node true) ∙ before.long;
            spread = subst (AreSpread g first) (sym is) (spread_on g first told node before.spread found.0);
            none = λ e. (let t = w.any-is in absurd cc);
            some = λ e. subst (λ t. missing t < missing first) (sym is) (fewer_left c.loop-node.any first told (set told node true) less before.none before.some);
          }
      | else-is_next w ↦
          let is = ap (λ v. v.items) w.told-is in
          record {
            long = ap (λ t. length t + 1) is ∙ before.long;
            spread = subst (AreSpread g first) (sym is) before.spread;
            none = λ e. (is ∙ (before.none (sym w.any-is ∙ e)).0, closed_more g order told c.if-is_next.told.items at is (before.none (sym w.any-is ∙ e)).1 (subst (λ t. LeadsOn g t node → IsMarked t node) c.as_slice.ensures.value (c.is_next.ensures.not (λ t. (let f = w.if-is_next.false in absurd cc)))));
            some = λ e. subst (λ t. missing t < missing first) (sym is) (before.some (sym w.any-is ∙ e));
          }
    ]
