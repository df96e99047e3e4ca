use Rattle.std.proofs.Common.{arith, length, ◌≤◌}
use Rattle.asn_link_forms.proofs.Parts.{argument_of_objects, components_seen, given_of_objects, item_of_objects, table_of_objects}
use Rattle.asn_link_forms.proofs.+looking.Goals as goal

pub constraints::in_argument-returns-in-ObjectSetParameter : goal.constraints::in_argument-returns-in-ObjectSetParameter
constraints::in_argument-returns-in-ObjectSetParameter h c = rw (argument_of_objects c.args.form c.args.argument.now _ c.in-ObjectSetParameter.is, ← c.as_slice.ensures) c.in_objects.ensures

pub constraints::in_constraint-returns-in-TableConstraint : goal.constraints::in_constraint-returns-in-TableConstraint
constraints::in_constraint-returns-in-TableConstraint h c = rw (table_of_objects c.args.form c.args.constraint.now _ c.in-TableConstraint.is, ← c.as_slice.ensures) c.in_table.ensures

pub constraints::in_element-returns-after-loop-component : goal.constraints::in_element-returns-after-loop-component
constraints::in_element-returns-after-loop-component h c =
    let le : length c.as_slice-component-items.result.now ≤ c.loop-component.component-index = omega arith in
    components_seen c.args.form c.args.element.now _ _ _ c.loop-component.component-index
    c.in-MultipleTypeConstraints.is c.as_slice-component-items.ensures le c.loop-component.invariant

pub objects::in_given-returns-in-ObjectSetField : goal.objects::in_given-returns-in-ObjectSetField
objects::in_given-returns-in-ObjectSetField h c = rw (given_of_objects c.args.form c.args.field.now _ c.in-ObjectSetField.is, ← c.as_slice.ensures) c.in_objects.ensures

pub objects::in_item-returns-in-ObjectSetDeclaration : goal.objects::in_item-returns-in-ObjectSetDeclaration
objects::in_item-returns-in-ObjectSetDeclaration h c = rw (item_of_objects c.args.form c.args.item.now _ c.in-ObjectSetDeclaration.is, ← c.as_slice.ensures) c.in_objects.ensures
