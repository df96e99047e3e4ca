use Rattle.std.proofs.Common.{◌≡◌, ◌<◌, sym, ap, ◌∙◌, arith}
use Rattle.asn_meaning_heads.specs.Places.{shown_place}
use Rattle.asn_link_values.specs.inner.Bringing.{shown_brought}
use Rattle.asn_link_values.proofs.Levelling.{told_at, told_further, told_nothing}
use Rattle.asn_link_values.proofs.tags.tag_brought.Goals as goal

pub returns-in-Told : goal.returns-in-Told
returns-in-Told c =
    let lt : 0 < c.loop-left._left = omega arith in
    sym (told_at c.args.names.now.definitions.now c.args.steps c.loop-left._left (shown_place c.loop-left.at) (shown_brought c.in_ok-tag.field-0) c.in-Told.tag lt
    (c.in_ok-tag.ensures) (ap shown_brought c.in-Told.is))
    ∙ c.loop-left.invariant

pub loop-left-preserved : goal.loop-left-preserved
loop-left-preserved c =
    let lt : 0 < c.loop-left._left = omega arith in
    sym (told_further c.args.names.now.definitions.now c.args.steps c.loop-left._left (shown_place c.loop-left.at) (shown_place c.in-AsPlace.next) (shown_brought c.in_ok-tag.field-0) lt
    (c.in_ok-tag.ensures) (ap shown_brought c.in-AsPlace.is))
    ∙ c.loop-left.invariant

pub returns : goal.returns
returns c =
    let none : c.loop-left._left ≡ 0 = omega arith in
    sym (told_nothing c.args.names.now.definitions.now c.args.steps c.loop-left._left (shown_place c.loop-left.at) none) ∙ c.loop-left.invariant
