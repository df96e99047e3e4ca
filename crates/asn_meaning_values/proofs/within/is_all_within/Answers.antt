use Rattle.std.proofs.Common.{◌∙◌}
use Rattle.asn_meaning_heads.specs.Places.{shown_place}
use Rattle.asn_meaning_heads.specs.Scopes.{shown}
use Rattle.asn_meaning_heads.specs.Values.{shown_value}
use Rattle.asn_meaning_heads.proofs.Spanning.{of_these}
use Rattle.asn_meaning_values.proofs.within.is_all_within.Goals as goal

pub returns : goal.returns
returns c =
    c.in_ok-answer.ensures 0
    ∙ of_these (λ M. M.is_all (shown c.args.scope.now) (shown_value c.args.value) (shown_place c.args.place.now)) c.args.names.now.definitions.now c.args.steps
