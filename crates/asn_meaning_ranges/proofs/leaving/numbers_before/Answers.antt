use Rattle.std.proofs.Common.{sym, ap, ◌∙◌}
use Rattle.std.specs.Option.{option_map}
use Rattle.asn_meaning_heads.specs.Places.{shown_place}
use Rattle.asn_meaning_heads.specs.Trails.{shown_targets}
use Rattle.asn_meaning_ranges.proofs.Passed.{lost_at_all}
use Rattle.asn_meaning_ranges.proofs.leaving.numbers_before.Goals as goal

pub returns-in-None : goal.returns-in-None
returns-in-None c =
    λ m.
    sym (lost_at_all c.args.names.now.definitions.now c.args.steps (shown_place c.args.place.now) (λ k. sym (c.in_ok-trail.ensures k) ∙ ap (option_map shown_targets) c.in-None.is) m)
