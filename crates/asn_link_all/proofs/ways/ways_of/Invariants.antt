use Rattle.std.proofs.Common.{◌≡◌, ◌++◌, drop}
use Rattle.asn_link_all.specs.Ways.{ways_of}
use Rattle.asn_link_all.proofs.ways.ways_of.Given as goal

abbrev pub invariant-loop-i : goal.invariant-loop-i
invariant-loop-i l = l.ways ++ ways_of (drop l.i l.free) (drop l.i l.withheld) ≡ ways_of l.free l.withheld
