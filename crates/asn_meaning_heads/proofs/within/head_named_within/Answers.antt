use Rattle.std.proofs.Common.{◌∙◌}
use Rattle.asn_meaning_heads.specs.Scopes.{shown}
use Rattle.asn_meaning_heads.proofs.Spanning.{of_these}
use Rattle.asn_meaning_heads.proofs.within.head_named_within.Goals as goal
use Rattle.asn_meaning.specs.Names.{head_named}

pub returns : goal.returns
returns c = c.in_ok-found.ensures 0 ∙ of_these (λ M. head_named M (shown c.args.scope.now) c.args.name.now) c.args.names.now.definitions.now c.args.steps
