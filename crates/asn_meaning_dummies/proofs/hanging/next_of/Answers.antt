use Rattle.std.proofs.Common.{◌+◌, sym, ap, ◌∙◌}
use Rattle.asn_meaning_heads.specs.Leads.{shown_lead}
use Rattle.asn_meaning_heads.specs.Places.{shown_place, shown_target}
use Rattle.asn_meaning_dummies.proofs.Arriving.{at_target}
use Rattle.asn_meaning_dummies.proofs.hanging.next_of.Goals as goal

pub returns-in-Target : goal.returns-in-Target
returns-in-Target c = λ m k.
    at_target c.args.names.now.definitions.now (c.args.steps + m) k (shown_place c.args.place.now) (shown_target c.in-Target.target) (sym (c.in_ok-lead_of.ensures m) ∙ ap shown_lead c.in-Target.is)
