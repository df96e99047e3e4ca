use Rattle.std.proofs.Common.{◌++◌, ◌∙◌, ◌≤◌, ap, arith, drop, length}
use Rattle.std.specs.List.{zip}
use Rattle.asn_check_listing.proofs.Forms.{argument_of_objects, components_done, field_of_objects, item_of_objects, table_of_objects}
use Rattle.asn_check_listing.proofs.Members.{member_turn}
use Rattle.asn_check_listing.proofs.+writing.Goals as goal

pub constraints::write_argument-returns-in-ObjectSetParameter : goal.constraints::write_argument-returns-in-ObjectSetParameter
constraints::write_argument-returns-in-ObjectSetParameter h c = rw (argument_of_objects c.args.argument.now _ c.in-ObjectSetParameter.is, ← c.as_slice.ensures) c.write_objects.ensures

pub constraints::write_constraint-returns-in-TableConstraint : goal.constraints::write_constraint-returns-in-TableConstraint
constraints::write_constraint-returns-in-TableConstraint h c = rw (table_of_objects c.args.constraint.now _ c.in-TableConstraint.is, ← c.as_slice.ensures, ← c.as_slice-in-TableConstraint.ensures) c.write_table.ensures

pub constraints::write_element-returns-after-loop-component : goal.constraints::write_element-returns-after-loop-component
constraints::write_element-returns-after-loop-component h c =
    let le : length c.as_slice-component-items.result.now ≤ c.loop-component.component-index = omega arith in
    rw (← components_done c.args.element.now _ _ _ _ _ _ _ _ c.in-MultipleTypeConstraints.is c.as_slice-component-items.ensures le c.in_ok-first-in-MultipleTypeConstraints.ensures.text c.in_ok-first-in-MultipleTypeConstraints.ensures.none c.loop-component.invariant.0 c.loop-component.invariant.1, ← c.either-in-MultipleTypeConstraints.ensures) c.push_str-in-MultipleTypeConstraints.ensures.ok

pub objects::write_field-returns-in-ObjectSetField : goal.objects::write_field-returns-in-ObjectSetField
objects::write_field-returns-in-ObjectSetField h c = rw (field_of_objects c.args.field.now _ c.in-ObjectSetField.is, ← c.as_slice.ensures) c.write_set_field.ensures

pub objects::write_item-returns-in-ObjectSetDeclaration : goal.objects::write_item-returns-in-ObjectSetDeclaration
objects::write_item-returns-in-ObjectSetDeclaration h c = rw (item_of_objects c.args.item.now _ c.in-ObjectSetDeclaration.is, ← c.as_slice.ensures) c.write_objects.ensures

pub types::write_members-loop-number-preserved : goal.types::write_members-loop-number-preserved
types::write_members-loop-number-preserved h c =
    let cs = zip c.args.names.now c.args.places.now in
    member_turn c.loop-number.first c.in_ok-none.none (drop c.loop-number.cursor cs) (drop c.in_ok-none.next cs) c.args.marker c.args.members.now c.loop-number.number c.index-members-number.result c.loop-number.out c.write_between.new.out c.push_str.new.self c.write_member.new.out _ _
    c.loop-number-test.true c.index-members-number.is c.loop-number.invariant c.in_ok-none.ensures.text c.in_ok-none.ensures.none c.in_ok-none.ensures.rest
    (c.in_ok-push_str.ensures.ok ∙ ap (λ l. c.write_between.new.out ++ l) c.either.ensures) c.in_ok-write_member.ensures
