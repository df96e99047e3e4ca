-- The value of meaning that one of the code stands for.
use Rattle.std.specs.Prelude.{None}
use Rattle.asn_tree.specs.declared.values.ASN1Value.{ASN1Value}
use Rattle.asn_tree.specs.declared.values.ASN1Value.TheVariants as value
use Rattle.asn_meaning_heads.specs.declared.values.ValueForm.{ValueForm}
use Rattle.asn_meaning_heads.specs.declared.values.ValueForm.TheVariants as form

abbrev pub shown_value : ValueForm → ASN1Value
shown_value (form.Written v) = v.now
shown_value (form.Name name) = value.ElsewhereDeclaredValue None name.now
shown_value (form.Number i) = value.Integer i
