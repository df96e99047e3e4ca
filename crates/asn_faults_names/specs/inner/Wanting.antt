-- What a place wants of an object's field.
use Rattle.std.specs.Prelude.{Bool}
use Rattle.asn_faults_names.specs.declared.objects.WantedField.{WantedField}
use Rattle.asn_faults_names.specs.declared.objects.WantedField.TheVariants as wanted
use Rattle.asn_meaning.specs.Layers.{FieldLayer}
use Rattle.asn_needs.specs.Missing.{is_type_field, is_value_field}

abbrev pub wanted_field : WantedField → FieldLayer → Bool
wanted_field wanted.Type = is_type_field
wanted_field wanted.Value = is_value_field
