use Rattle.std.proofs.Common.{◌≡◌, ◌<◌, ◌≤◌, arith, length, sym, ◌∙◌, true, false, is_some}
use Rattle.asn_meaning_values.specs.Braces.{shown_named}
use Rattle.asn_meaning.specs.Members.{member_named}
use Rattle.asn_meaning_shapes.specs.Members.{shown_members}
use Rattle.asn_places_values.proofs.Running.{all_done, all_fails, all_next}
use Rattle.asn_places_values.proofs.fields.are_members.Goals as goal

pub returns-then-not-is_member : goal.returns-then-not-is_member
returns-then-not-is_member c =
    let lt : c.loop-field.field-index < length c.args.fields.now = omega arith in
    let outside : is_some (member_named (shown_members c.args.members.now) (shown_named c.field-item.result).0) ≡ false = cc in
    sym (all_fails (λ f. is_some (member_named (shown_members c.args.members.now) f.0)) shown_named c.args.fields.now c.loop-field.field-index c.field-item.result lt c.field-item.is outside) ∙ c.loop-field.invariant

pub loop-field-preserved : goal.loop-field-preserved
loop-field-preserved c =
    let lt : c.loop-field.field-index < length c.args.fields.now = omega arith in
    let among : is_some (member_named (shown_members c.args.members.now) (shown_named c.field-item.result).0) ≡ true = cc in
    sym (all_next (λ f. is_some (member_named (shown_members c.args.members.now) f.0)) shown_named c.args.fields.now c.loop-field.field-index c.field-item.result lt c.field-item.is among) ∙ c.loop-field.invariant

pub returns : goal.returns
returns c =
    let le : length c.args.fields.now ≤ c.loop-field.field-index = omega arith in
    sym (all_done (λ f. is_some (member_named (shown_members c.args.members.now) f.0)) shown_named c.args.fields.now c.loop-field.field-index le) ∙ c.loop-field.invariant
