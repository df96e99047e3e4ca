use Rattle.std.proofs.Common.{◌≡◌, map, take}
use Rattle.asn_tree_equality.proofs.making.texts_of.Given as goal

abbrev pub invariant-loop-name : goal.invariant-loop-name
invariant-loop-name l = l.texts ≡ map (λ n. n.now) (take l.name-index l.names)
