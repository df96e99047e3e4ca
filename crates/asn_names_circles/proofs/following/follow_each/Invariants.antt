use Rattle.std.proofs.Common.{map, take}
use Rattle.asn_names_circles.specs.inner.Followed.{FollowEach}
use Rattle.asn_names_circles.proofs.following.follow_each.Given as goal

abbrev pub invariant-loop-definition : goal.invariant-loop-definition
invariant-loop-definition l = FollowEach l.index.definitions.now (map (λ d. d.now) (take l.definition-index l.definitions)) l.told
