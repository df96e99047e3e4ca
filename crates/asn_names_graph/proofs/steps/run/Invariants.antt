use Rattle.asn_names_graph.specs.Graphs.{edges_of}
use Rattle.asn_names_graph.specs.inner.Shown.{shown}
use Rattle.asn_names_graph.specs.inner.Valid.{Known, Valid, work_left}
use Rattle.asn_names_graph.proofs.steps.run.Given as goal

abbrev pub invariant-loop-place : goal.invariant-loop-place
invariant-loop-place l = record {
  valid : Valid (edges_of l.starts l.targets) (shown l.search);
  known : Known (shown l.initial.search) (shown l.search);
}

abbrev pub decreases-loop-place : goal.decreases-loop-place
decreases-loop-place l = work_left (edges_of l.starts l.targets) (shown l.search)
