use Rattle.std.proofs.Common.{◌≡◌, ℕ, ◌+◌, ◌<◌, ◌↔◌, get_or, true, false, sym, subst, arith}
use Rattle.std.proofs.lemmas.Grind.{common_steps}
use Rattle.asn_names_graph.specs.Graphs.{edges_of}
use Rattle.asn_names_graph.specs.inner.Numbered.{ReturnsTo}
use Rattle.asn_names_graph.proofs.TablesTold.{stays_more}
use Rattle.asn_names_graph.proofs.tables.cycle_table.Goals as goal

pub loop-node-preserved : goal.loop-node-preserved
loop-node-preserved c = record {
  long = grind (arith, common_steps);
  told =
      subst (λ table. (x : ℕ) → x < c.loop-node.node + 1 → ((get_or table x false ≡ true) ↔ ReturnsTo (edges_of c.args.starts.now c.args.targets.now) c.args.numbers.now x)) (sym c.in_ok-push.ensures.items)
      (stays_more (edges_of c.args.starts.now c.args.targets.now) c.args.numbers.now c.loop-node.table.items c.loop-node.node c.returns_to-stays.result c.loop-node.invariant.long c.loop-node.invariant.told c.returns_to-stays.ensures);
}
