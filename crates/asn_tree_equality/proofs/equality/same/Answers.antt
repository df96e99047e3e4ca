use Rattle.std.specs.Bool.{one_answer}
use Rattle.asn_tree_equality.specs.Equality.{same_by-Decides}
use Rattle.asn_tree_equality.proofs.equality.same.Goals as goal

pub returns-clause-gives : goal.returns-clause-gives
returns-clause-gives g c = one_answer _ _ c.is_same.ensures (same_by-Decides _ c.args.left.now c.args.right.now)
