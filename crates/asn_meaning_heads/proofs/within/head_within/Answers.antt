use Rattle.std.proofs.Common.{◌∙◌}
use Rattle.asn_meaning_heads.specs.Places.{shown_place}
use Rattle.asn_meaning_heads.proofs.Spanning.{of_these}
use Rattle.asn_meaning_heads.proofs.within.head_within.Goals as goal

pub returns : goal.returns
returns c = c.in_ok-found.ensures 0 ∙ of_these (λ M. M.head (shown_place c.args.place.now)) c.args.names.now.definitions.now c.args.steps
