use Rattle.std.proofs.Common.{◌≡◌, drop}
use Rattle.asn_calls.specs.Integers.{first_holding}
use Rattle.asn_calls.proofs.integers.first_holding.Given as goal

abbrev pub invariant-loop-ty : goal.invariant-loop-ty
invariant-loop-ty l = first_holding l.low l.high (drop l.ty-index l.types) ≡ first_holding l.low l.high l.types
