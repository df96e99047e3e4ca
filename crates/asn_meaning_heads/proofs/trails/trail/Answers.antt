use Rattle.std.proofs.Common.{◌+◌, ◌-◌, ◌<◌, sym, ap, ◌∙◌, arith}
use Rattle.asn_meaning_heads.specs.Leads.{shown_lead}
use Rattle.asn_meaning_heads.specs.Places.{shown_place, shown_target}
use Rattle.asn_meaning_heads.specs.Trails.{shown_targets, trail}
use Rattle.asn_meaning_heads.proofs.Trailing.{behind, goes_further}
use Rattle.asn_meaning_heads.proofs.trails.trail.Goals as goal

pub loop-left-preserved : goal.loop-left-preserved
loop-left-preserved c = λ m.
    let lt : 0 < c.loop-left.left = omega arith in
    ap (λ p. behind (shown_targets c.in_ok-targets-in-Target.targets) (trail c.args.names.now.definitions.now (c.loop-left.left - 1 + m) p)) c.in_ok-at-in-Target.ensures
    ∙ sym (goes_further c.args.names.now.definitions.now c.loop-left.left m (shown_place c.loop-left.at) (shown_targets c.loop-left.targets)
    (shown_targets c.in_ok-targets-in-Target.targets) (shown_target c.in-Target.target) lt (sym (c.in_ok-lead_of.ensures m) ∙ ap shown_lead c.in-Target.is) c.in_ok-targets-in-Target.ensures)
    ∙ c.loop-left.invariant m
