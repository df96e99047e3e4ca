use Rattle.std.proofs.Common.{◌≡◌, ◌≤◌, ◌-◌, [], length, take}
use Rattle.asn_streams.specs.Sink.{Takes}
use Rattle.asn_streams.proofs.giving.give_all.Given as goal

abbrev pub invariant-loop-given : goal.invariant-loop-given
invariant-loop-given g l =
    record {
      within : l.given ≤ length l.bytes;
      taken : Takes (g.K.Sink.state l.initial.sink).bytes (take l.given l.bytes) (g.K.Sink.state l.sink).bytes;
      no_fault : (g.K.Sink.state l.sink).faults ≡ (g.K.Sink.state l.initial.sink).faults;
      untouched : l.bytes ≡ [] → l.sink ≡ l.initial.sink;
    }

abbrev pub decreases-loop-given : goal.decreases-loop-given
decreases-loop-given g l = length l.bytes - l.given
