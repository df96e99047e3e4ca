-- One more write: what it took comes after what was taken, and bytes were left to be written.
use Rattle.std.proofs.Common.{◌≡◌, [], length, ap, rules, arith}
use Rattle.asn_streams.proofs.SeveralWrites.{takes_more}
use Rattle.asn_streams.proofs.giving.give_all.Goals as goal

pub loop-given-preserved : goal.loop-given-preserved
loop-given-preserved g c =
    record {
      within = search rules;
      taken = takes_more _ _ _ c.args.bytes.now c.loop-given.given c.in_ok-given.field-0 c.loop-given.invariant.taken c.in_ok-given.ensures.taken;
      no_fault = search rules;
      untouched = λ (none : c.args.bytes.now ≡ []). let none_left : length c.args.bytes.now ≡ 0 = ap length none in absurd (omega arith);
    }
