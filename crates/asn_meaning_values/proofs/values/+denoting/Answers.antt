use Rattle.std.proofs.Common.{◌<◌, ap, ◌∙◌, arith}
use Rattle.asn_meaning_values.proofs.Chaining.{follow_further, follow_known}
use Rattle.asn_meaning_values.specs.Denotation.{shown_denotation}
use Rattle.asn_meaning_values.specs.inner.Following.{shaped_by}
use Rattle.asn_meaning_values.specs.inner.Reading.{shown_read}
use Rattle.asn_meaning_values.proofs.values.+denoting.Goals as goal

pub denotes-returns-in-Known : goal.denotes-returns-in-Known
denotes-returns-in-Known t c = λ m.
    let lt : 0 < c.loop-left.left = omega arith in
    c.in_ok-answer-in-Known.ensures m
    ∙ ap (λ ws. shaped_by c.args.names.now.definitions.now m ws (shown_denotation c.in-Known.denoted)) c.as_slice.ensures
    ∙ follow_known c.args.names.now.definitions.now c.loop-left.left m c.loop-left.wanted (shown_read c.loop-left.read) c.in_ok-denoted.field-0 c.in-Known.denoted lt
    (c.in_ok-denoted.ensures m) c.in-Known.is
    ∙ c.loop-left.invariant m

pub denotes-loop-left-preserved : goal.denotes-loop-left-preserved
denotes-loop-left-preserved t c = λ m.
    let lt : 0 < c.loop-left.left = omega arith in
    follow_further c.args.names.now.definitions.now c.loop-left.left m c.loop-left.wanted c.in_ok-wanted-in-Further.wanted (shown_read c.loop-left.read) c.in_ok-denoted.field-0
    c.in-Further.head c.in-Further.next lt (c.in_ok-denoted.ensures m) c.in-Further.is c.in_ok-wanted-in-Further.ensures
    ∙ c.loop-left.invariant m
