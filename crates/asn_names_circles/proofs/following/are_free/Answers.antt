use Rattle.std.proofs.Common.{ap, map, refl, subst}
use Rattle.std.proofs.lemmas.List.{take_all}
use Rattle.asn_names_circles.specs.inner.Followed.{AreAllFree}
use Rattle.asn_names_circles.proofs.Followed.{more_free}
use Rattle.asn_names_circles.proofs.following.are_free.Goals as goal

pub loop-name-preserved : goal.loop-name-preserved
loop-name-preserved c =
    more_free c.args.index.now.definitions.now (λ n. n.now) c.args.mentioned.now c.loop-name.name-index c.name-item.result c.loop-name-test.true c.name-item.is c.loop-name.invariant
    (c.is_free.ensures.0 c.if-not-is_free.false)

pub returns : goal.returns
returns c =
    ((λ t. subst (AreAllFree c.args.index.now.definitions.now) (ap (map (λ n. n.now)) (take_all c.loop-name.name-index c.args.mentioned.now c.loop-name-test.false)) c.loop-name.invariant), (λ a. refl))
