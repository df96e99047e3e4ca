use Rattle.std.proofs.Common.{◌≡◌, ◌-◌, ◌≤◌, length, drop}
use Rattle.asn_text.proofs.Sameness.{all_eq}
use Rattle.asn_text.proofs.equality.+same.Given as goal

abbrev pub invariant-same_trees-loop-i : goal.invariant-same_trees-loop-i
invariant-same_trees-loop-i l = record {
  within : l.i ≤ length l.some;
  same : all_eq l.some l.others ≡ all_eq (drop l.i l.some) (drop l.i l.others);
}

abbrev pub decreases-same_trees-loop-i : goal.decreases-same_trees-loop-i
decreases-same_trees-loop-i l = length l.some - l.i
