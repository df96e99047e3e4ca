use Rattle.std.proofs.Common.{◌≡◌, ◌++◌, drop}
use Rattle.asn_types.specs.Enumerations.{numbers_written}
use Rattle.asn_types.proofs.enumerations.numbers_written.Given as goal

abbrev pub invariant-loop-item : goal.invariant-loop-item
invariant-loop-item l = l.numbers ++ numbers_written (drop l.item-index l.items) ≡ numbers_written l.items
