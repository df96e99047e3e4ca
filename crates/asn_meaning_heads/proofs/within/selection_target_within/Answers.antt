use Rattle.std.proofs.Common.{◌∙◌}
use Rattle.asn_meaning_heads.specs.Scopes.{shown}
use Rattle.asn_meaning_heads.proofs.Spanning.{of_these}
use Rattle.asn_meaning_heads.proofs.within.selection_target_within.Goals as goal
use Rattle.asn_meaning.specs.Names.{selection_target}

pub returns : goal.returns
returns c = c.in_ok-target.ensures 0 ∙ of_these (λ M. selection_target M (shown c.args.scope.now) c.args.selection.now) c.args.names.now.definitions.now c.args.steps
