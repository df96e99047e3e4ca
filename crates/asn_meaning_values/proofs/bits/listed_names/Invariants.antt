use Rattle.std.proofs.Common.{◌≡◌, ◌++◌, drop}
use Rattle.asn_meaning_values.specs.Bits.{shown_texts}
use Rattle.asn_meaning_values.proofs.bits.listed_names.Given as goal

abbrev pub invariant-loop-name : goal.invariant-loop-name
invariant-loop-name l = shown_texts l.listed ++ drop l.name-index l.names ≡ l.names
