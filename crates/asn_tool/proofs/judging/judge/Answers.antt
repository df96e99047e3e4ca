use Rattle.std.proofs.Common.{refl, sym, subst, length, ◌≤◌}
use Rattle.asn_tool.proofs.Validity.{too_long, short_enough}
use Rattle.asn_tool.proofs.judging.judge.Goals as goal

pub returns-then-bytes-gt-LONGEST : goal.returns-then-bytes-gt-LONGEST
returns-then-bytes-gt-LONGEST c = rw c.error.ensures ((refl, refl), too_long c.args.bytes.now c.if-bytes-gt-LONGEST.true, refl)

pub read-requires : goal.read-requires
read-requires c = short_enough c.in-Ok.source.now (subst (λ xs. length xs ≤ 2097152) (sym c.in-Ok.ensures.cases.0) c.if-bytes-gt-LONGEST.false)

pub returns-in-Err : goal.returns-in-Err
returns-in-Err c = rw c.error-in-Err.ensures ((refl, refl), record { short = short_enough c.args.bytes.now c.if-bytes-gt-LONGEST.false; other = c.in-Err.ensures.cases.0 }, refl)
