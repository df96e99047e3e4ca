use Rattle.std.proofs.Common.{◌≡◌, ◌<◌, ap, sym, ◌∙◌, arith}
use Rattle.asn_meaning_heads.specs.Spans.{further}
use Rattle.asn_meaning_values.specs.Denotation.{shown_denotation}
use Rattle.asn_meaning_values.specs.Leaves.{leaf}
use Rattle.asn_meaning_values.specs.inner.Following.{shaped_by}
use Rattle.asn_meaning_values.specs.inner.Reading.{shown_read}
use Rattle.asn_meaning_values.proofs.Leaving.{leaf_further, leaf_known, leaf_not}
use Rattle.asn_meaning_values.proofs.leaves.+leaving.Goals as goal

pub leaf_over-returns-in-Known : goal.leaf_over-returns-in-Known
leaf_over-returns-in-Known t c = λ m.
    let lt : 0 < c.loop-left.left = omega arith in
    ap leaf
    (c.in_ok-answer-in-Known.ensures m
    ∙ ap (λ ws. shaped_by c.args.names.now.definitions.now (further c.args.span m) ws (shown_denotation c.in-Known.denoted)) c.as_slice.ensures)
    ∙ leaf_known c.args.names.now.definitions.now c.loop-left.left (further c.args.span m) c.loop-left.wanted (shown_read c.loop-left.read) c.in_ok-denoted.field-0
    c.in-Known.denoted lt (c.in_ok-denoted.ensures m) c.in-Known.is
    ∙ c.loop-left.invariant m

pub leaf_over-loop-left-preserved : goal.leaf_over-loop-left-preserved
leaf_over-loop-left-preserved t c = λ m.
    let lt : 0 < c.loop-left.left = omega arith in
    leaf_further c.args.names.now.definitions.now c.loop-left.left (further c.args.span m) c.loop-left.wanted c.in_ok-wanted-in-Further.wanted (shown_read c.loop-left.read)
    c.in_ok-denoted.field-0 c.in-Further.head c.in-Further.next lt (c.in_ok-denoted.ensures m) c.in-Further.is c.in_ok-wanted-in-Further.ensures
    ∙ c.loop-left.invariant m

pub leaf_over-returns : goal.leaf_over-returns
leaf_over-returns t c = λ m.
    let none : c.loop-left.left ≡ 0 = omega arith in
    let alone : further c.args.span m ≡ 0 = ap (λ span. further span m) c.in-These.is in
    sym (leaf_not c.args.names.now.definitions.now c.loop-left.left (further c.args.span m) c.loop-left.wanted (shown_read c.loop-left.read) none alone)
    ∙ c.loop-left.invariant m
