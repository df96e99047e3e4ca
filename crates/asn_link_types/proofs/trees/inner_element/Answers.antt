use Rattle.std.proofs.Common.{Some, ap, sym, ◌∙◌}
use Rattle.asn_link_types.specs.inner.Made.{inner_made}
use Rattle.asn_tree.specs.declared.constraints.SubtypeElement.TheVariants as element
use Rattle.asn_link_types.proofs.trees.inner_element.Goals as goal

pub returns-in-Some : goal.returns-in-Some
returns-in-Some c =
    ap Some (element.outs-MultipleTypeConstraints (record { is_partial = c.args.layer.now.is_partial; constraints = c.in-Some.constraints }))
    ∙ sym (ap (inner_made c.args.layer.now) c.in-Some.is)
