use Rattle.std.proofs.lemmas.Int.{to_z-of_z}
use Rattle.asn_calls.proofs.HeldNumbers.{first_found}
use Rattle.asn_calls.proofs.integers.first_holding.Goals as goal

pub returns-then-spans : goal.returns-then-spans
returns-then-spans c =
    let low = c.ranges.low in
    let high = c.ranges.high in
    let e = simp to_z-of_z at c.spans.ensures in
    let before = simp to_z-of_z at c.loop-ty.invariant in
    first_found _ _ _ _ _ _ c.loop-ty-test.true e c.if-spans.true before
