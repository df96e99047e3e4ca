use Rattle.std.proofs.Common.{◌≡◌, ◌++◌, drop}
use Rattle.asn_meaning_values.specs.Braces.{shown_named_values}
use Rattle.asn_meaning.specs.Written.{explicit_fields}
use Rattle.asn_meaning_values.proofs.braces.explicit_fields.Given as goal

abbrev pub invariant-loop-field : goal.invariant-loop-field
invariant-loop-field l = shown_named_values l.found ++ explicit_fields (drop l.field-index l.fields) ≡ explicit_fields l.fields
