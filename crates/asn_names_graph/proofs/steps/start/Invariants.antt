use Rattle.std.proofs.Common.{◌≡◌, ℕ, length, get_or}
use Rattle.asn_names_graph.specs.declared.mark.Mark.TheVariants.{New}
use Rattle.asn_names_graph.proofs.steps.start.Given as goal

abbrev pub invariant-loop-start_of_node : goal.invariant-loop-start_of_node
invariant-loop-start_of_node l = record {
  length : length l.marks.items ≡ l.start_of_node-index;
  new : (y : ℕ) → get_or l.marks.items y New ≡ New;
}
