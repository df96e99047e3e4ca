use Rattle.std.proofs.Common.{◌∙◌}
use Rattle.asn_meaning_heads.specs.Scopes.{shown}
use Rattle.asn_meaning_heads.proofs.Spanning.{of_these}
use Rattle.asn_tree.specs.declared.types.SequenceOrSet.{out-SequenceOrSet}
use Rattle.asn_meaning_shapes.proofs.within.struct_members_within.Goals as goal

pub returns : goal.returns
returns c =
    c.in_ok-found.ensures 0 ∙ of_these (λ M. M.members (shown c.args.scope.now) (out-SequenceOrSet c.args.layer.now)) c.args.names.now.definitions.now c.args.steps
