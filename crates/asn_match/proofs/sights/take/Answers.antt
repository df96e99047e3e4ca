use Rattle.std.proofs.Common.{◌∷◌, [], ◌++◌, ap, sym, ◌∙◌, arith}
use Rattle.std.specs.Prelude.{slice_range}
use Rattle.asn_match.proofs.Bytes.{one_more_byte}
use Rattle.asn_match.proofs.sights.take.Goals as goal

pub loop-at-preserved : goal.loop-at-preserved
loop-at-preserved g c =
    record {
      items =
          c.in-Ok.ensures.items
          ∙ ap (λ xs. xs ++ c.byte.result ∷ []) c.loop-at.invariant.items
          ∙ ap (λ b. slice_range c.args.text.now c.args.offset c.loop-at.at ++ b ∷ []) c.byte.ensures.value
          ∙ sym (one_more_byte c.args.text.now c.args.offset c.loop-at.at (omega (arith, c.loop-at.auto.at)) (omega (arith, c.loop-at-test.true, c.requires.end)));
      cost = omega (arith, c.byte.ensures.tick, c.loop-at.invariant.cost, c.loop-at.auto.at);
    }
