use Rattle.std.proofs.Common.{◌≡◌, ◌<◌, ap, sym, ◌∙◌, arith}
use Rattle.asn_meaning_heads.specs.Spans.{further}
use Rattle.asn_meaning_values.proofs.Asking.{all_further, all_known, all_not}
use Rattle.asn_meaning_values.specs.inner.Reading.{shown_read}
use Rattle.asn_meaning_values.proofs.everything.is_all_over.Goals as goal

pub returns-in-Known : goal.returns-in-Known
returns-in-Known c = λ m.
    let lt : 0 < c.loop-left.left = omega arith in
    sym (all_known c.args.names.now.definitions.now c.loop-left.left (further c.args.span m) (shown_read c.loop-left.read) c.in_ok-answer.field-0 c.in-Known.answer lt
    (c.in_ok-answer.ensures m) c.in-Known.is)
    ∙ c.loop-left.invariant m

pub loop-left-preserved : goal.loop-left-preserved
loop-left-preserved c = λ m.
    let lt : 0 < c.loop-left.left = omega arith in
    sym (all_further c.args.names.now.definitions.now c.loop-left.left (further c.args.span m) (shown_read c.loop-left.read) c.in_ok-answer.field-0 c.in-Read.next lt
    (c.in_ok-answer.ensures m) c.in-Read.is)
    ∙ c.loop-left.invariant m

pub returns : goal.returns
returns c = λ m.
    let none : c.loop-left.left ≡ 0 = omega arith in
    let alone : further c.args.span m ≡ 0 = ap (λ span. further span m) c.in-These.is in
    sym (all_not c.args.names.now.definitions.now c.loop-left.left (further c.args.span m) (shown_read c.loop-left.read) none alone)
    ∙ c.loop-left.invariant m
