use Rattle.std.proofs.Common.{◌≡◌, ℕ, ◌+◌, ◌-◌, length}
use Rattle.asn_match.specs.Table.{at}
use Rattle.asn_match.proofs.chains.MatchTable.reach.Given as goal

abbrev pub invariant-loop-self : goal.invariant-loop-self
invariant-loop-self l = (s j : ℕ) → at l.self s j ≡ at l.fn.self s j

abbrev pub decreases-loop-self : goal.decreases-loop-self
decreases-loop-self l = l.offset + 1 - length l.self.newest.items
