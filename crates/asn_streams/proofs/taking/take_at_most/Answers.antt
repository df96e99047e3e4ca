-- What is gone after a fault: the text so far, and then the piece that was read last.
use Rattle.std.proofs.Common.{◌++◌, length-append, arith}
use Rattle.asn_streams.proofs.SeveralReads.{gives_more}
use Rattle.asn_streams.proofs.taking.take_at_most.Goals as goal

pub returns-in-Err-clause-lost : goal.returns-in-Err-clause-lost
returns-in-Err-clause-lost g c =
    let so_far = c.loop-source.invariant in
    let lost = c.in-Err.ensures.lost in
    record {
      taken = c.loop-source.text ++ lost.taken;
      given = gives_more _ _ _ c.loop-source.text lost.taken so_far.given lost.given;
      bounded = rw length-append (omega (arith, so_far.bounded, lost.bounded));
    }
