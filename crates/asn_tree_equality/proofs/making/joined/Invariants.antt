use Rattle.std.proofs.Common.{◌≡◌, ◌++◌, map, drop, true}
use Rattle.asn_tree_equality.specs.Making.{lines_from}
use Rattle.asn_tree_equality.proofs.making.joined.Given as goal

abbrev pub invariant-loop-comment : goal.invariant-loop-comment
invariant-loop-comment l =
    l.text ++ lines_from l.is_first (map (λ c. c.now) (drop l.comment-index l.comments)) ≡ lines_from true (map (λ c. c.now) l.comments)
