use Rattle.std.proofs.Common.{◌≡◌, drop}
use Rattle.std.specs.List.{fold}
use Rattle.std.specs.Prelude.{max}
use Rattle.asn_meaning_values.proofs.bits.greatest.Given as goal

abbrev pub invariant-loop-number : goal.invariant-loop-number
invariant-loop-number l = fold max l.greatest (drop l.number-index l.numbers) ≡ fold max 0 l.numbers
