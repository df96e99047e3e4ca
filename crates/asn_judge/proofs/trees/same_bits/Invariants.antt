use Rattle.std.proofs.Common.{◌≡◌, drop}
use Rattle.asn_judge.specs.inner.Trees.{in_pairs}
use Rattle.asn_meaning.specs.ValueTrees.{same_truth}
use Rattle.asn_judge.proofs.trees.same_bits.Given as goal

abbrev pub invariant-loop-number : goal.invariant-loop-number
invariant-loop-number l = in_pairs same_truth (drop l.number l.left) (drop l.number l.right) ≡ in_pairs same_truth l.left l.right
