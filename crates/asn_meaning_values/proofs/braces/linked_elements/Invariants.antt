use Rattle.std.proofs.Common.{◌≡◌, ◌++◌, drop}
use Rattle.asn_meaning_values.specs.Braces.{shown_values}
use Rattle.asn_meaning_values.proofs.braces.linked_elements.Given as goal

abbrev pub invariant-loop-value : goal.invariant-loop-value
invariant-loop-value l = shown_values l.found ++ drop l.value-index l.values ≡ l.values
