use Rattle.std.proofs.Common.{◌≡◌, ◌<◌, ◌≤◌, ◌-◌, length}
use Rattle.asn_streams.specs.Source.{Gives}
use Rattle.asn_streams.proofs.taking.take_at_most.Given as goal

abbrev pub invariant-loop-source : goal.invariant-loop-source
invariant-loop-source g l =
    record {
      given : Gives (g.S.Source.state l.initial.source).bytes l.text (g.S.Source.state l.source).bytes;
      bounded : length l.text ≤ l.most;
      room : 0 < length l.buffer.items;
      no_fault : (g.S.Source.state l.source).faults ≡ (g.S.Source.state l.initial.source).faults;
    }

abbrev pub decreases-loop-source : goal.decreases-loop-source
decreases-loop-source g l = l.most - length l.text
