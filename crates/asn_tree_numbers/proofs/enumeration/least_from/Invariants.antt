use Rattle.std.proofs.Common.{◌≡◌, ℕ, ◌≤◌, ◌<◌, ◌^◌, ◌-◌, pos, true}
use Rattle.asn_tree_numbers.specs.Enumeration.{has}
use Rattle.asn_tree_numbers.proofs.enumeration.least_from.Given as goal

abbrev pub invariant-loop-fitting : goal.invariant-loop-fitting
invariant-loop-fitting l =
    (l.from ≤ l.number) × ((k : ℕ) → l.from ≤ k → k < l.number → has l.taken.numbers (pos k) ≡ true)

abbrev pub decreases-loop-fitting : goal.decreases-loop-fitting
decreases-loop-fitting l = 2 ^ 127 - l.number
