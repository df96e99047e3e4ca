use Rattle.std.proofs.Common.{◌≡◌, ◌≤◌, length}
use Rattle.asn_match.specs.Table.{at}
use Rattle.asn_match.specs.Chain.{walk}
use Rattle.asn_match.proofs.chains.MatchTable.find.Given as goal

abbrev pub invariant-loop-place : goal.invariant-loop-place
invariant-loop-place l =
    record {
      within : l.place ≤ length l.self.entries.items;
      rest : walk l.self.entries.items l.rule l.place l.place ≡ at l.self l.rule l.offset;
    }

abbrev pub decreases-loop-place : goal.decreases-loop-place
decreases-loop-place l = l.place
