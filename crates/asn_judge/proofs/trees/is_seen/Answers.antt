use Rattle.std.proofs.Common.{◌<◌, ◌≤◌, ◌-◌, ap, arith, length, sym, ◌∙◌}
use Rattle.std.specs.Str.{bytes_eq}
use Rattle.asn_meaning_shapes.specs.declared.trees.Field.{out-Field}
use Rattle.asn_judge.proofs.Comparing.{seen_before, seen_here}
use Rattle.asn_judge.proofs.trees.is_seen.Goals as goal

pub returns-then-eq : goal.returns-then-eq
returns-then-eq c =
    let some : 0 < c.loop-left.left = omega arith in
    sym (seen_here c.args.fields.now c.loop-left.left c.index-fields-left.result c.args.name.now some c.loop-left.invariant.0 c.index-fields-left.is
    (ap (λ f. bytes_eq (out-Field f).name c.args.name.now) c.index-fields-left.is ∙ ap (λ n. bytes_eq n c.args.name.now) (sym c.as_str.ensures) ∙ sym c.eq.ensures ∙ c.if-eq.true))
    ∙ c.loop-left.invariant.1

pub loop-left-preserved : goal.loop-left-preserved
loop-left-preserved c =
    let some : 0 < c.loop-left.left = omega arith in
    let within : c.loop-left.left ≤ length c.args.fields.now = c.loop-left.invariant.0 in
    let less : c.loop-left.left - 1 ≤ length c.args.fields.now = omega (arith, within) in (
      less,
      sym (seen_before c.args.fields.now c.loop-left.left c.index-fields-left.result c.args.name.now some within c.index-fields-left.is
          (ap (λ f. bytes_eq (out-Field f).name c.args.name.now) c.index-fields-left.is ∙ ap (λ n. bytes_eq n c.args.name.now) (sym c.as_str.ensures) ∙ sym c.eq.ensures ∙ c.if-eq.false))
          ∙ c.loop-left.invariant.1,
    )
