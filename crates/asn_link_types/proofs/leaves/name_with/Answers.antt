use Rattle.std.proofs.Common.{◌∙◌, None, ap, sym}
use Rattle.asn_meaning_heads.specs.Kinds.{shown_reference}
use Rattle.asn_link_types.proofs.Layers.{name_shown}
use Rattle.asn_link_types.proofs.leaves.name_with.Goals as goal

pub returns-in_ok-identifier-in-Written : goal.returns-in_ok-identifier-in-Written
returns-in_ok-identifier-in-Written c =
    name_shown (shown_reference c.args.reference) c.in_ok-parent-in-Written.parent c.in_ok-identifier-in-Written.identifier c.args.constraints
    (c.in_ok-parent-in-Written.ensures ∙ sym (ap (λ r. (shown_reference r).parent) c.in-Written.is))
    (c.in_ok-identifier-in-Written.ensures ∙ sym (ap (λ r. (shown_reference r).identifier) c.in-Written.is))

pub returns-in_ok-identifier-in-Named : goal.returns-in_ok-identifier-in-Named
returns-in_ok-identifier-in-Named c =
    name_shown (shown_reference c.args.reference) None c.in_ok-identifier-in-Named.identifier c.args.constraints
    (sym (ap (λ r. (shown_reference r).parent) c.in-Named.is))
    (c.in_ok-identifier-in-Named.ensures ∙ sym (ap (λ r. (shown_reference r).identifier) c.in-Named.is))
