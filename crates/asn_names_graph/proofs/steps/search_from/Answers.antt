use Rattle.std.proofs.Common.{sym}
use Rattle.asn_names_graph.specs.Graphs.{edges_of}
use Rattle.asn_names_graph.specs.inner.Shown.{shown}
use Rattle.asn_names_graph.proofs.Ends.{root_steps}
use Rattle.asn_names_graph.proofs.steps.search_from.Goals as goal

pub run-requires-clause-valid : goal.run-requires-clause-valid
run-requires-clause-valid c =
    (root_steps (edges_of c.args.starts.now c.args.targets.now) (shown c.args.search.now) c.args.node c.requires.valid c.requires.no_call c.requires.node (sym c.in-New.ensures) (shown c.visit.new.self) c.in_ok-visit-in-New.ensures).valid
