use Rattle.std.proofs.Common.{◌≡◌, ◌+◌, ◌≤◌, get_or, sym, ap, ◌∙◌, arith}
use Rattle.asn_names_graph.specs.Graphs.{edges_of}
use Rattle.asn_names_graph.specs.inner.State.{passed}
use Rattle.asn_names_graph.specs.inner.Shown.{shown}
use Rattle.asn_names_graph.proofs.Leaves.{top_within}
use Rattle.asn_names_graph.proofs.OneStep.{AtWork, at_work, step_visits, step_joins, step_passes}
use Rattle.asn_names_graph.proofs.steps.step.Goals as goal

pub node_at-node-requires : goal.node_at-node-requires
node_at-node-requires c = top_within (edges_of c.args.starts.now c.args.targets.now) (shown c.args.search.now) c.args.place c.requires.valid c.requires.top

pub end_of-requires : goal.end_of-requires
end_of-requires c = (at_work (edges_of c.args.starts.now c.args.targets.now) (shown c.args.search.now) c.args.place c.node_at-node.result c.requires.valid c.requires.top c.node_at-node.ensures).node

pub leave-requires-clause-ended : goal.leave-requires-clause-ended
leave-requires-clause-ended c =
    let a : AtWork (edges_of c.args.starts.now c.args.targets.now) (shown c.args.search.now) c.args.place c.node_at-node.result = at_work (edges_of c.args.starts.now c.args.targets.now) (shown c.args.search.now) c.args.place c.node_at-node.result c.requires.valid c.requires.top c.node_at-node.ensures in
    let h : get_or c.args.search.now.next.items c.node_at-node.result 0 ≤ get_or c.args.starts.now (c.node_at-node.result + 1) 0 = c.requires.valid.tidy.not_past c.node_at-node.result a.node in
    let e : get_or c.args.search.now.next.items c.node_at-node.result 0 ≡ get_or c.args.starts.now (c.node_at-node.result + 1) 0 = omega (arith, c.next_edge-edge.ensures, c.end_of.ensures) in
    ap (λ z. get_or c.args.search.now.next.items z 0) (sym c.node_at-node.ensures) ∙ e ∙ ap (λ z. get_or c.args.starts.now (z + 1) 0) c.node_at-node.ensures

pub returns-in_ok-visit-in-New : goal.returns-in_ok-visit-in-New
returns-in_ok-visit-in-New c =
    step_visits (edges_of c.args.starts.now c.args.targets.now) (shown c.args.search.now) c.args.place c.node_at-node.result c.next_edge-edge.result c.target_at-target.result c.requires.graph c.requires.valid c.requires.top c.node_at-node.ensures c.next_edge-edge.ensures
    (omega (arith, c.end_of.ensures)) c.target_at-target.ensures (shown c.visit.new.self) (sym c.in-New.ensures) c.in_ok-visit-in-New.ensures

pub returns-in-OnPath : goal.returns-in-OnPath
returns-in-OnPath c =
    step_joins (edges_of c.args.starts.now c.args.targets.now) (shown c.args.search.now) c.args.place c.node_at-node.result c.next_edge-edge.result c.target_at-target.result c.requires.graph c.requires.valid c.requires.top c.node_at-node.ensures c.next_edge-edge.ensures
    (omega (arith, c.end_of.ensures)) c.target_at-target.ensures (shown c.pass.new.self) c.in-OnPath.lower (sym c.in-OnPath.ensures) (c.pass.ensures ∙ ap (λ u. passed u c.node_at-node.result) c.join.ensures)

pub returns-in-Done : goal.returns-in-Done
returns-in-Done c =
    step_passes (edges_of c.args.starts.now c.args.targets.now) (shown c.args.search.now) c.args.place c.node_at-node.result c.next_edge-edge.result c.target_at-target.result c.requires.graph c.requires.valid c.requires.top c.node_at-node.ensures c.next_edge-edge.ensures
    (omega (arith, c.end_of.ensures)) c.target_at-target.ensures (shown c.pass-in-Done.new.self) c.in-Done.field-0 (sym c.in-Done.ensures) c.pass-in-Done.ensures
