use Rattle.std.proofs.Common.{◌<◌, ◌+◌, ◌-◌, sym, ap, ◌∙◌, arith}
use Rattle.asn_meaning_heads.specs.Places.{shown_place}
use Rattle.asn_meaning.specs.Judge.{meaning}
use Rattle.asn_meaning_dummies.specs.inner.Hanging.{shown_next}
use Rattle.asn_meaning_dummies.proofs.Arriving.{ends, goes}
use Rattle.asn_meaning_dummies.proofs.hanging.hangs.Goals as goal

pub returns-in-Ends : goal.returns-in-Ends
returns-in-Ends c = λ m.
    let lt : 0 < c.loop-left.left = omega arith in
    sym (ends c.args.names.now.definitions.now (meaning c.args.names.now.definitions.now (c.args.steps + m)) c.loop-left.left m (shown_place c.loop-left.at) (shown_next c.in_ok-hangs.field-0) c.in-Ends.hangs lt
    (c.in_ok-hangs.ensures m (c.loop-left.left - 1 + m)) (ap shown_next c.in-Ends.is))
    ∙ c.loop-left.invariant m

pub loop-left-preserved : goal.loop-left-preserved
loop-left-preserved c = λ m.
    let lt : 0 < c.loop-left.left = omega arith in
    sym (goes c.args.names.now.definitions.now (meaning c.args.names.now.definitions.now (c.args.steps + m)) c.loop-left.left m (shown_place c.loop-left.at) (shown_place c.in-GoesTo.next)
    (shown_next c.in_ok-hangs.field-0) lt (c.in_ok-hangs.ensures m (c.loop-left.left - 1 + m)) (ap shown_next c.in-GoesTo.is))
    ∙ c.loop-left.invariant m
