use Rattle.std.proofs.Common.{sym, ◌∙◌, arith}
use Rattle.std.specs.Prelude.{[]}
use Rattle.asn_rules.proofs.Rows.{at_constraints, at_definitions, at_headers, at_lexical, at_none, at_objects, at_types, at_values, from_constraints, from_definitions, from_headers, from_objects, from_types, from_values}
use Rattle.asn_rules.proofs.whole.whole_expression.Goals as goal

pub returns-in-0-to-22 : goal.returns-in-0-to-22
returns-in-0-to-22 c = c.lexical_row.ensures from_values ∙ sym (at_lexical c.args.rule)

pub returns-in-23-to-53 : goal.returns-in-23-to-53
returns-in-23-to-53 c = c.value_row.ensures from_types ∙ sym (at_values c.args.rule (omega arith))

pub returns-in-54-to-101 : goal.returns-in-54-to-101
returns-in-54-to-101 c = c.type_row.ensures from_constraints ∙ sym (at_types c.args.rule (omega arith))

pub returns-in-102-to-139 : goal.returns-in-102-to-139
returns-in-102-to-139 c = c.constraint_row.ensures from_objects ∙ sym (at_constraints c.args.rule (omega arith))

pub returns-in-140-to-161 : goal.returns-in-140-to-161
returns-in-140-to-161 c = c.object_row.ensures from_headers ∙ sym (at_objects c.args.rule (omega arith))

pub returns-in-162-to-180 : goal.returns-in-162-to-180
returns-in-162-to-180 c = c.header_row.ensures from_definitions ∙ sym (at_headers c.args.rule (omega arith))

pub returns-in-181-to-190 : goal.returns-in-181-to-190
returns-in-181-to-190 c = c.definition_row.ensures [] ∙ sym (at_definitions c.args.rule (omega arith))

pub returns-in-191-to-255 : goal.returns-in-191-to-255
returns-in-191-to-255 c = sym (at_none c.args.rule (omega arith))
