use Rattle.asn_names_circles.proofs.Followed.{follow_more}
use Rattle.asn_names_circles.proofs.following.follow_each.Goals as goal

pub loop-definition-preserved : goal.loop-definition-preserved
loop-definition-preserved c =
    follow_more (λ d. d.now) c.args.index.now.definitions.now c.args.definitions.now c.loop-definition.definition-index c.definition-item.result
    c.loop-definition.told c.add.new.self c.in_ok-follows_none.field-0 c.loop-definition-test.true c.definition-item.is c.in_ok-add.ensures.ok
    c.loop-definition.invariant c.in_ok-follows_none.ensures
