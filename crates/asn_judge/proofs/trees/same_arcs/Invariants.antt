use Rattle.std.proofs.Common.{◌≡◌, drop}
use Rattle.asn_judge.specs.inner.Trees.{in_pairs}
use Rattle.asn_meaning.specs.Rows.{arc_tree}
use Rattle.asn_meaning.specs.ValueTrees.{same_arc}
use Rattle.asn_judge.proofs.trees.same_arcs.Given as goal

abbrev pub invariant-loop-number : goal.invariant-loop-number
invariant-loop-number l =
    in_pairs (λ a b. same_arc (arc_tree a) (arc_tree b)) (drop l.number l.left) (drop l.number l.right) ≡ in_pairs (λ a b. same_arc (arc_tree a) (arc_tree b)) l.left l.right
