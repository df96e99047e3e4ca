use Rattle.std.proofs.Common.{◌<◌, ap, arith, length, sym, ◌∙◌}
use Rattle.std.specs.Str.{bytes_eq}
use Rattle.asn_meaning_shapes.proofs.Showing.{field_found, field_passed}
use Rattle.asn_meaning_shapes.proofs.trees.find_field.Goals as goal

pub returns-then-eq : goal.returns-then-eq
returns-then-eq c =
    let lt : c.loop-field.field-index < length c.args.fields.now = omega arith in
    c.loop-field.invariant
    ∙ field_found c.args.fields.now c.loop-field.field-index c.field-item.result c.args.name.now lt c.field-item.is
    (ap (λ n. bytes_eq n c.args.name.now) (sym c.as_str.ensures) ∙ sym c.eq.ensures ∙ c.if-eq.true)

pub loop-field-preserved : goal.loop-field-preserved
loop-field-preserved c =
    let lt : c.loop-field.field-index < length c.args.fields.now = omega arith in
    c.loop-field.invariant
    ∙ field_passed c.args.fields.now c.loop-field.field-index c.field-item.result c.args.name.now lt c.field-item.is
    (ap (λ n. bytes_eq n c.args.name.now) (sym c.as_str.ensures) ∙ sym c.eq.ensures ∙ c.if-eq.false)
