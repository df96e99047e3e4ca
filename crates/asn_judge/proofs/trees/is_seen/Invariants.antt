use Rattle.std.proofs.Common.{◌≡◌, ◌≤◌, length}
use Rattle.asn_judge.specs.inner.Trees.{seen}
use Rattle.asn_meaning.specs.ValueTrees.{is_among}
use Rattle.asn_judge.proofs.trees.is_seen.Given as goal

abbrev pub invariant-loop-left : goal.invariant-loop-left
invariant-loop-left l = (l.left ≤ length l.fields) × (is_among (seen l.fields l.left) l.name ≡ is_among (seen l.fields l.number) l.name)

abbrev pub decreases-loop-left : goal.decreases-loop-left
decreases-loop-left l = l.left
