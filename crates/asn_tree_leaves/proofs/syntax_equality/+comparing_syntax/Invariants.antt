use Rattle.std.proofs.Common.{◌≡◌, take, length}
use Rattle.asn_tree_leaves.proofs.syntax_equality.+comparing_syntax.Given as goal

abbrev pub invariant-same_syntax_expressions-loop-i : goal.invariant-same_syntax_expressions-loop-i
invariant-same_syntax_expressions-loop-i l = (length l.xs ≡ length l.ys) × (take l.i l.xs ≡ take l.i l.ys)
