use Rattle.std.proofs.Common.{◌≡◌, take}
use Rattle.asn_calls.specs.Integers.{type_of_all}
use Rattle.asn_calls.proofs.integers.IntegerIntegerCalls.int_type.Given as goal

abbrev pub invariant-loop-constraint : goal.invariant-loop-constraint
invariant-loop-constraint l = l.ty ≡ type_of_all (take l.constraint-index l.constraint-items)
