use Rattle.std.proofs.Common.{◌∙◌}
use Rattle.asn_meaning_values.specs.Leaves.{leaf}
use Rattle.asn_meaning_heads.specs.Places.{shown_place}
use Rattle.asn_meaning_heads.specs.Scopes.{shown}
use Rattle.asn_meaning_heads.specs.Values.{shown_value}
use Rattle.asn_meaning_heads.proofs.Spanning.{of_these}
use Rattle.asn_meaning_values.proofs.within.leaf_within.Goals as goal

pub returns : goal.returns
returns c =
    c.in_ok-denoted.ensures 0
    ∙ of_these (λ M. leaf (M.denotes (shown c.args.scope.now) (shown_value c.args.value) (shown_place c.args.place.now))) c.args.names.now.definitions.now c.args.steps
