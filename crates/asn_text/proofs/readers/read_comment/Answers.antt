use Rattle.std.proofs.Common.{sym, List, ℕ, subst}
use Rattle.asn_text.specs.inner.Parts.{HasPart}
use Rattle.asn_text.proofs.Gaps.{comment_body, behind_mark, Body}
use Rattle.asn_text.proofs.readers.read_comment.Goals as goal

body : (c : goal.After-body_rule) → Body c.inner-text.result.now c.args.depth c.in-Ok.end
body c =
    let At : List ℕ → Type 0 = λ text. Body text c.args.depth c.in-Ok.end in
    subst At (sym c.inner-text.ensures) (comment_body _ c.args.rule c.args.depth c.in-Ok.end c.requires c.in-Ok.ensures.ok)

pub part_end-body-requires-clause-boundary : goal.part_end-body-requires-clause-boundary
part_end-body-requires-clause-boundary c = behind_mark c.inner-text.result.now (body c) c.inner-text.utf8

pub part_end-body-requires-clause-part : goal.part_end-body-requires-clause-part
part_end-body-requires-clause-part c =
    subst (λ number. HasPart c.inner-text.result.now number 2 c.args.depth c.in-Ok.end) (sym c.body_rule.ensures) (body c).part

pub range-requires-clause-start_boundary : goal.range-requires-clause-start_boundary
range-requires-clause-start_boundary c _ =
    let At : List ℕ → Type 0 = λ text. Body text c.args.depth c.in-Ok.end in
    behind_mark c.inner-text.result.now (subst At (sym c.inner-text.ensures) (comment_body _ c.args.rule c.args.depth c.in-Ok.end c.requires c.in-Ok.ensures.ok)) c.inner-text.utf8
