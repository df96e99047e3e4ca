use Rattle.std.proofs.Common.{◌∙◌, ap}
use Rattle.asn_meaning_heads.proofs.Scoping.{shown_nothing}
use Rattle.asn_link_instance.specs.Closed.{every_name}
use Rattle.asn_link_instance.specs.Instance.{instance, placed_tag}
use Rattle.asn_link_instance.specs.Literals.{literals}
use Rattle.asn_meaning.specs.Judge.{meaning}
use Rattle.asn_link_all.proofs.tags.tag_of.Goals as goal

pub returns : goal.returns
returns c =
    let defs = c.args.names.now.definitions.now in
    let n = c.args.limits.steps in
    c.in_ok-tag.ensures
    ∙ ap (λ scope. placed_tag (literals every_name) defs (meaning defs n) (instance (literals every_name) defs n c.args.limits.levels) scope c.args.definition.now.tag c.args.definition.now.ty) shown_nothing
