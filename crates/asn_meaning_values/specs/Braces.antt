-- The values of meaning that those between braces stand for.
use Rattle.std.specs.Prelude.{ℕ, List, map}
use Rattle.asn_tree.specs.declared.values.ASN1Value.{ASN1Value}
use Rattle.asn_meaning_heads.specs.declared.values.ValueForm.{ValueForm}
use Rattle.asn_meaning_heads.specs.Values.{shown_value}
use Rattle.asn_meaning_values.specs.declared.braces.NamedValue.{NamedValue}
use Rattle.asn_meaning.specs.Written.{NamedValues}

abbrev pub shown_named : NamedValue → List ℕ × ASN1Value
shown_named x = (x.name.now, shown_value x.value)

abbrev pub shown_named_values : List NamedValue → NamedValues
shown_named_values xs = map shown_named xs

abbrev pub shown_values : List ValueForm → List ASN1Value
shown_values vs = map shown_value vs
