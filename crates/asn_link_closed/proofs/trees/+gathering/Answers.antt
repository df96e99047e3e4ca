use Rattle.std.proofs.Common.{arith, length, ◌≤◌}
use Rattle.asn_link_closed.proofs.Components.{components_added}
use Rattle.asn_link_closed.proofs.trees.+gathering.Goals as goal

pub add_element-returns-after-loop-component : goal.add_element-returns-after-loop-component
add_element-returns-after-loop-component h c =
    let le : length c.as_slice-component-items.result.now ≤ c.loop-component.component-index = omega arith in
    components_added c.args.element.now _ _ _ _ c.loop-component.component-index c.in-MultipleTypeConstraints.is c.as_slice-component-items.ensures le c.loop-component.invariant
