use Rattle.std.proofs.Common.{◌≡◌, ℕ, ◌<◌, []}
use Rattle.asn_names_graph.specs.Graphs.{edges_of}
use Rattle.asn_names_graph.specs.declared.mark.Mark.TheVariants.{New}
use Rattle.asn_names_graph.specs.inner.Shown.{shown}
use Rattle.asn_names_graph.specs.inner.State.{mark_of}
use Rattle.asn_names_graph.specs.inner.Valid.{Valid}
use Rattle.asn_names_graph.proofs.steps.search_all.Given as goal

abbrev pub invariant-loop-node : goal.invariant-loop-node
invariant-loop-node l = record {
  valid : Valid (edges_of l.starts l.targets) (shown l.search);
  no_call : l.search.calls ≡ [];
  met : (y : ℕ) → y < l.node → mark_of l.search.marks.items y ≡ New → ⊥;
}
