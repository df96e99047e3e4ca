use Rattle.std.proofs.Common.{◌≡◌, ◌++◌, ◌-◌, suc}
use Rattle.std.specs.List.{fold}
use Rattle.std.specs.Prelude.{max}
use Rattle.asn_meaning_values.proofs.Naming.{bits_from}
use Rattle.asn_meaning.specs.Rows.{set_bits}
use Rattle.asn_meaning_values.proofs.bits.set_bits.Given as goal

abbrev pub invariant-loop-i : goal.invariant-loop-i
invariant-loop-i l = l.bits ++ bits_from l.named l.i (suc (fold max 0 l.numbers) - l.i) ≡ set_bits l.numbers l.named
