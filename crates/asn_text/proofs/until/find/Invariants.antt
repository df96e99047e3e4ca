use Rattle.std.proofs.Common.{◌-◌, ◌≤◌, ℕ, length}
use Rattle.asn_text.specs.Until.{StopsAt, NeverStops}
use Rattle.asn_text.specs.inner.Walks.{walker_of}
use Rattle.asn_text.proofs.until.find.Given as goal

abbrev pub invariant-loop-place : goal.invariant-loop-place
invariant-loop-place l = record {
  room : l.opened ≤ l.place;
  within : l.place ≤ length l.text;
  stops : (j : ℕ) → StopsAt (walker_of l.sought) l.text l.opened l.place j → StopsAt (walker_of l.sought) l.text 0 0 j;
  never : NeverStops (walker_of l.sought) l.text l.opened l.place → NeverStops (walker_of l.sought) l.text 0 0;
}

abbrev pub decreases-loop-place : goal.decreases-loop-place
decreases-loop-place l = length l.text - l.place
