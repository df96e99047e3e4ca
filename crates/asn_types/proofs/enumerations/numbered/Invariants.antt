use Rattle.std.proofs.Common.{◌≡◌}
use Rattle.asn_types.specs.Enumerations.{numbered}
use Rattle.asn_types.proofs.enumerations.numbered.Given as goal

abbrev pub invariant-loop-item : goal.invariant-loop-item
invariant-loop-item l = l.made ≡ numbered l.yielded l.numbers
