use Rattle.std.proofs.Common.{◌∙◌, ◌++◌, ◌+◌, ap, sym}
use Rattle.asn_tree_notation.specs.Strings.{span}
use Rattle.asn_calls.proofs.CharacterSpans.{span_more, span_done}
use Rattle.asn_calls.proofs.strings.span.Goals as goal

pub loop-code-preserved : goal.loop-code-preserved
loop-code-preserved c =
    ap (λ l. l ++ span (c.loop-code.code + 1) c.args.end) c.in_ok-add.ensures.ok ∙ span_more c.loop-code.list c.loop-code.code c.args.end c.loop-code-test.true ∙ c.loop-code.invariant

pub returns : goal.returns
returns c = sym (span_done c.loop-code.list c.loop-code.code c.args.end c.loop-code-test.false) ∙ c.loop-code.invariant
