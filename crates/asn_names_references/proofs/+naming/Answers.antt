use Rattle.std.proofs.Common.{arith, length, ◌≤◌}
use Rattle.asn_names_references.proofs.Parts.{argument_of_objects, components_added, field_of_objects, item_of_objects, table_of_objects, value_of_parts}
use Rattle.asn_names_references.proofs.+naming.Goals as goal

pub constraints::add_argument-returns-in-ObjectSetParameter : goal.constraints::add_argument-returns-in-ObjectSetParameter
constraints::add_argument-returns-in-ObjectSetParameter h c = rw (argument_of_objects c.args.argument.now _ c.args.wanted c.in-ObjectSetParameter.is, ← c.as_slice.ensures) c.add_objects.ensures

pub constraints::add_constraint-returns-in-TableConstraint : goal.constraints::add_constraint-returns-in-TableConstraint
constraints::add_constraint-returns-in-TableConstraint h c = rw (table_of_objects c.args.constraint.now _ c.args.wanted c.in-TableConstraint.is, ← c.as_slice.ensures) c.add_objects.ensures

pub constraints::add_element-returns-after-loop-component : goal.constraints::add_element-returns-after-loop-component
constraints::add_element-returns-after-loop-component h c =
    let le : length c.as_slice-component-items.result.now ≤ c.loop-component.component-index = omega arith in
    components_added c.args.element.now _ _ _ _ c.loop-component.component-index c.args.wanted c.in-MultipleTypeConstraints.is c.as_slice-component-items.ensures le c.loop-component.invariant

pub objects::add_field-returns-in-ObjectSetField : goal.objects::add_field-returns-in-ObjectSetField
objects::add_field-returns-in-ObjectSetField h c = rw (field_of_objects c.args.field.now _ c.args.wanted c.in-ObjectSetField.is, ← c.as_slice.ensures) c.add_objects.ensures

pub objects::add_item-returns-in-ObjectSetDeclaration : goal.objects::add_item-returns-in-ObjectSetDeclaration
objects::add_item-returns-in-ObjectSetDeclaration h c = rw (item_of_objects c.args.item.now _ c.args.wanted c.in-ObjectSetDeclaration.is, ← c.as_slice.ensures) c.add_objects.ensures

pub values::add_value-returns-in-SequenceOrSet : goal.values::add_value-returns-in-SequenceOrSet
values::add_value-returns-in-SequenceOrSet h c = rw (value_of_parts c.args.value.now _ c.args.wanted c.in-SequenceOrSet.is, ← c.as_slice.ensures) c.add_parts.ensures
