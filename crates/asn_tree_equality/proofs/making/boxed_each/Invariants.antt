use Rattle.std.proofs.Common.{◌≡◌}
use Rattle.asn_tree_equality.proofs.making.boxed_each.Given as goal

abbrev pub invariant-loop-first : goal.invariant-loop-first
invariant-loop-first g l = l.boxed ≡ l.yielded
