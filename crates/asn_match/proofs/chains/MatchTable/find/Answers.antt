use Rattle.std.proofs.Common.{refl, ◌∙◌, arith, ◌-◌}
use Rattle.std.proofs.lemmas.Bool.Decides.{nat_tests}
use Rattle.std.proofs.lemmas.Option.{slice_get_read}
use Rattle.asn_match.proofs.Walks.{next_place}
use Rattle.asn_match.proofs.chains.MatchTable.find.Goals as goal

pub loop-place-preserved : goal.loop-place-preserved
loop-place-preserved c =
    let read = slice_get_read c.args.self.now.entries.items _ (c.loop-place.place - 1) c.index-entry.result.now refl (omega (arith, c.loop-place.invariant.within, c.loop-place-test.true)) c.index-entry.ensures in
    let on = next_place c.args.self.now.entries.items c.args.self.now.falls c.args.rule c.loop-place.place c.index-entry.result.now c.loop-place-test.true c.loop-place.invariant.within read (grind (arith, nat_tests, c.if-entry-rule.false)) in
    record { within = on.0; rest = on.1 ∙ c.loop-place.invariant.rest }
