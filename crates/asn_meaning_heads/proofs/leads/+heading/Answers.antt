use Rattle.std.proofs.Common.{◌<◌, sym, ap, ◌∙◌, arith}
use Rattle.asn_meaning_heads.specs.Leads.{shown_lead}
use Rattle.asn_meaning_heads.specs.Places.{shown_place, shown_target}
use Rattle.asn_meaning_heads.specs.Spans.{further}
use Rattle.asn_meaning_heads.proofs.Leading.{head_beyond}
use Rattle.asn_meaning_heads.proofs.leads.+heading.Goals as goal

pub head_over-loop-left-preserved : goal.head_over-loop-left-preserved
head_over-loop-left-preserved t c = λ m.
    let lt : 0 < c.loop-left.left = omega arith in
    sym (head_beyond c.args.names.now.definitions.now c.loop-left.left (further c.args.span m) (shown_place c.loop-left.at) (shown_target c.in-Target.target) lt (sym (c.in_ok-lead_over.ensures m) ∙ ap shown_lead c.in-Target.is))
    ∙ c.loop-left.invariant m
