use Rattle.std.proofs.Common.{map, take}
use Rattle.asn_names_circles.specs.inner.Followed.{AreAllFree}
use Rattle.asn_names_circles.proofs.following.are_free.Given as goal

abbrev pub invariant-loop-name : goal.invariant-loop-name
invariant-loop-name l = AreAllFree l.index.definitions.now (map (λ n. n.now) (take l.name-index l.mentioned))
