use Rattle.std.proofs.Common.{◌≡◌, ◌↔◌, get_or, true, ◌∙◌, subst, arith}
use Rattle.std.proofs.lemmas.List.{length-set}
use Rattle.asn_names_graph.specs.Graphs.{edges_of}
use Rattle.asn_names_graph.specs.inner.Numbered.{LeadsToFree}
use Rattle.asn_names_graph.proofs.Needs.{free_more}
use Rattle.asn_names_graph.proofs.tables.free_table.Goals as goal

pub loop-i-preserved : goal.loop-i-preserved
loop-i-preserved c = record {
  long = length-set c.loop-i.table.items (get_or c.args.order.now c.loop-i.i 0) c.leads_to_free-free.result ∙ c.loop-i.invariant.long;
  told =
      free_more (edges_of c.args.starts.now c.args.targets.now) c.args.numbers.now c.args.order.now c.requires.graph c.requires.numbered c.loop-i.table.items c.loop-i.i c.leads_to_free-free.result c.loop-i.invariant.long (omega arith) c.loop-i.invariant.told
      (subst (λ t. (c.leads_to_free-free.result ≡ true) ↔ LeadsToFree (edges_of c.args.starts.now c.args.targets.now) c.args.numbers.now t (get_or c.args.order.now c.loop-i.i 0)) c.as_slice.ensures.value c.leads_to_free-free.ensures);
}
