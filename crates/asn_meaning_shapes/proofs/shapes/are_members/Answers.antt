use Rattle.std.proofs.Common.{◌≡◌, ◌<◌, ◌≤◌, arith, length, sym, ◌∙◌, true, false}
use Rattle.asn_meaning_shapes.specs.declared.trees.Field.{out-Field}
use Rattle.asn_meaning_shapes.specs.Members.{shown_members}
use Rattle.asn_meaning_shapes.proofs.Shaping.{fields_done, fields_in, fields_out}
use Rattle.asn_meaning.specs.Members.{member_names}
use Rattle.asn_meaning.specs.ValueTrees.{is_among}
use Rattle.asn_meaning_shapes.proofs.shapes.are_members.Goals as goal

pub returns-then-not-is_field_of : goal.returns-then-not-is_field_of
returns-then-not-is_field_of c =
    let lt : c.loop-field.field-index < length c.args.fields.now = omega arith in
    let outside : is_among (member_names (shown_members c.args.members.now)) (out-Field c.field-item.result).name ≡ false = cc in
    sym (fields_out (member_names (shown_members c.args.members.now)) c.args.fields.now c.loop-field.field-index c.field-item.result lt c.field-item.is outside) ∙ c.loop-field.invariant

pub loop-field-preserved : goal.loop-field-preserved
loop-field-preserved c =
    let lt : c.loop-field.field-index < length c.args.fields.now = omega arith in
    let among : is_among (member_names (shown_members c.args.members.now)) (out-Field c.field-item.result).name ≡ true = cc in
    sym (fields_in (member_names (shown_members c.args.members.now)) c.args.fields.now c.loop-field.field-index c.field-item.result lt c.field-item.is among) ∙ c.loop-field.invariant

pub returns : goal.returns
returns c =
    let le : length c.args.fields.now ≤ c.loop-field.field-index = omega arith in
    sym (fields_done (member_names (shown_members c.args.members.now)) c.args.fields.now c.loop-field.field-index le) ∙ c.loop-field.invariant
