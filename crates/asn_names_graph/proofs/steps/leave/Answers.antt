use Rattle.std.proofs.Common.{◌<◌, length, arith}
use Rattle.asn_names_graph.specs.Graphs.{edges_of}
use Rattle.asn_names_graph.specs.inner.Shown.{shown}
use Rattle.asn_names_graph.proofs.Leaves.{leave_closes, leave_inner, leave_none, top_within}
use Rattle.asn_names_graph.proofs.steps.leave.Goals as goal

pub close-requires-clause-on_path : goal.close-requires-clause-on_path
close-requires-clause-on_path c =
    let h : c.args.place < length c.args.search.now.path.items = top_within (edges_of c.args.starts.now c.args.targets.now) (shown c.args.search.now) c.args.place c.requires.valid c.requires.top in omega arith

pub returns-in_ok-close-in-Some : goal.returns-in_ok-close-in-Some
returns-in_ok-close-in-Some c =
    leave_closes (edges_of c.args.starts.now c.args.targets.now) (shown c.args.search.now) c.args.place c.requires.valid c.requires.top c.requires.ended (shown c.close.new.self) (cc) c.in_ok-close-in-Some.ensures

pub returns-else-bound-place : goal.returns-else-bound-place
returns-else-bound-place c =
    leave_inner (edges_of c.args.starts.now c.args.targets.now) (shown c.args.search.now) c.args.place c.requires.valid c.requires.top c.requires.ended (shown c.leave.new.self) c.in-Some.bound (cc) c.if-bound-place.false c.leave.ensures

pub returns-in-None : goal.returns-in-None
returns-in-None c =
    leave_none (edges_of c.args.starts.now c.args.targets.now) (shown c.args.search.now) c.args.place c.requires.valid c.requires.top c.requires.ended (shown c.leave-in-None.new.self) (cc) c.leave-in-None.ensures
