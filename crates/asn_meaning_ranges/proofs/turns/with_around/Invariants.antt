use Rattle.std.proofs.Common.{◌≡◌, ◌++◌, drop}
use Rattle.asn_meaning_ranges.specs.inner.Wides.{all_wide}
use Rattle.asn_meaning.specs.Numbers.{around}
use Rattle.asn_meaning_ranges.proofs.turns.with_around.Given as goal

abbrev pub invariant-loop-turn : goal.invariant-loop-turn
invariant-loop-turn l = all_wide l.all ++ around (all_wide (drop l.turn-index l.turns)) ≡ all_wide l.fn.numbers ++ around (all_wide l.turns)
