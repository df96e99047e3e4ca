use Rattle.std.proofs.Common.{◌≡◌, ◌++◌, drop}
use Rattle.asn_meaning_fields.specs.Given.{shown_given_fields}
use Rattle.asn_meaning_fields.proofs.giving.written.Given as goal

abbrev pub invariant-loop-field : goal.invariant-loop-field
invariant-loop-field l = shown_given_fields l.all ++ drop l.field-index l.fields ≡ l.fields
