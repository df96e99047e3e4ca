use Rattle.std.proofs.Common.{sym, arith}
use Rattle.asn_text.specs.Until.{here, later, at_end, on}
use Rattle.asn_text.proofs.until.find.Goals as goal

pub returns-in-Stop-clause-found : goal.returns-in-Stop-clause-found
returns-in-Stop-clause-found c =
    c.loop-place.invariant.stops _ (here c.loop-place-test.true (sym c.in-Stop.ensures.does))

pub loop-place-preserved : goal.loop-place-preserved
loop-place-preserved c =
    let within = c.in-Pass.ensures.within in
    record {
      room = omega (arith, within);
      within = omega (arith, within);
      stops = λ j stops. c.loop-place.invariant.stops j (later c.loop-place-test.true (sym c.in-Pass.ensures.does) stops);
      never = λ never. c.loop-place.invariant.never (on c.loop-place-test.true (sym c.in-Pass.ensures.does) never);
    }

pub returns-clause-found : goal.returns-clause-found
returns-clause-found c = c.loop-place.invariant.never (at_end c.loop-place-test.false)
