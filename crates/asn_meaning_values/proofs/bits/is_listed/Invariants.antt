use Rattle.std.proofs.Common.{◌≡◌, drop, nat_eq}
use Rattle.std.specs.List.{list_any}
use Rattle.asn_meaning_values.proofs.bits.is_listed.Given as goal

abbrev pub invariant-loop-listed : goal.invariant-loop-listed
invariant-loop-listed l = list_any (nat_eq l.number) (drop l.listed-index l.numbers) ≡ list_any (nat_eq l.number) l.numbers
