use Rattle.std.proofs.Common.{◌≡◌, ◌≤◌, ◌+◌, ◌-◌}
use Rattle.std.specs.Prelude.{slice_range}
use Rattle.asn_match.proofs.sights.take.Given as goal

abbrev pub invariant-loop-at : goal.invariant-loop-at
invariant-loop-at g l =
    record {
      items : l.taken.items ≡ slice_range l.text l.offset l.at;
      cost : l.steps ≤ l.fn.steps + (l.at - l.offset);
    }
