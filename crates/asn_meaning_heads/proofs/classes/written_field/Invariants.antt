use Rattle.std.proofs.Common.{◌≡◌, drop}
use Rattle.asn_meaning.specs.Objects.{field_of}
use Rattle.asn_meaning_heads.proofs.Fields.{found_in}
use Rattle.asn_meaning_heads.proofs.classes.written_field.Given as goal

abbrev pub invariant-loop-field : goal.invariant-loop-field
invariant-loop-field l = found_in (drop l.field-index l.class.fields) l.name ≡ field_of l.class l.name
