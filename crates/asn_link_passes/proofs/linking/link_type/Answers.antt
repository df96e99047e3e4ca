use Rattle.std.proofs.Common.{false, subst}
use Rattle.asn_meaning_heads.proofs.Scoping.{shown_nothing}
use Rattle.asn_link_passes.specs.Promises.{IsLinkedType}
use Rattle.asn_link_passes.proofs.linking.link_type.Goals as goal

pub returns : goal.returns
returns c =
    subst (λ scope. IsLinkedType c.args.names.now.definitions.now c.args.limits.steps c.args.limits.levels false scope c.args.ty.now c.in_ok-made.made) shown_nothing c.in_ok-made.ensures
