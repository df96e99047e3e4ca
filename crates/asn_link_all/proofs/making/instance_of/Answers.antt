use Rattle.std.proofs.Common.{◌∙◌, ap, false}
use Rattle.asn_meaning_heads.proofs.Scoping.{shown_nothing}
use Rattle.asn_link_instance.specs.Closed.{every_name}
use Rattle.asn_link_instance.specs.Instance.{instance}
use Rattle.asn_link_instance.specs.Literals.{literals}
use Rattle.asn_link_all.proofs.making.instance_of.Goals as goal

pub returns : goal.returns
returns c =
    c.in_ok-made.ensures
    ∙ ap (λ scope. (instance (literals every_name) c.args.names.now.definitions.now c.args.limits.steps c.args.limits.levels).of_type false scope c.args.definition.now.ty) shown_nothing
