use Rattle.std.proofs.Common.{◌≡◌, drop}
use Rattle.std.specs.Prelude.{is_some}
use Rattle.asn_meaning_values.specs.Braces.{shown_values}
use Rattle.asn_meaning.specs.Rows.{reference_names}
use Rattle.asn_link_values.proofs.braces.are_plain_names.Given as goal

abbrev pub invariant-loop-value : goal.invariant-loop-value
invariant-loop-value l = is_some (reference_names (shown_values (drop l.value-index l.values))) ≡ is_some (reference_names (shown_values l.values))
