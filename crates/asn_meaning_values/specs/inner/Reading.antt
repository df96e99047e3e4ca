-- Values that are read elsewhere, as those of the code stand for them.
use Rattle.std.specs.Prelude.{ℕ, List, Option, None}
use Rattle.asn_tree.specs.declared.objects.InformationObjectField.{out-InformationObjectField}
use Rattle.asn_tree.specs.declared.types.ASN1Type.{ASN1Type}
use Rattle.asn_tree.specs.declared.values.ASN1Value.{ASN1Value}
use Rattle.asn_meaning_values.specs.declared.reading.PathValue.{PathValue}
use Rattle.asn_meaning_values.specs.declared.reading.Read.{Read as LentRead}
use Rattle.asn_meaning_heads.specs.Classes.{shown_field_type}
use Rattle.asn_meaning_heads.specs.Places.{shown_place}
use Rattle.asn_meaning_heads.specs.Scopes.{shown}
use Rattle.asn_meaning_heads.specs.Values.{shown_value}
use Rattle.asn_meaning.specs.Answers.{once}
use Rattle.asn_meaning.specs.Definitions.{Definitions}
use Rattle.asn_meaning.specs.Denotes.{Read, value_of_field}
use Rattle.asn_meaning.specs.Names.{FieldType, object_field}
use Rattle.asn_meaning.specs.Scopes.{Scope, Empty}

abbrev pub shown_read : LentRead → Read
shown_read r = record { scope = shown r.scope; value = shown_value r.value; place = shown_place r.place }

abbrev pub shown_path : PathValue → ASN1Value × FieldType
shown_path p = (shown_value p.value, shown_field_type p.ty)

-- a value under a type, both read outside templates
abbrev pub read_outside : ASN1Value → ASN1Type → Read
read_outside v ty = record { scope = Empty; value = v; place = record { scope = Empty; ty = ty } }

-- the value that an object gives for a field
abbrev pub given_value : Definitions → Scope → List ℕ → List ℕ → Option ASN1Value
given_value defs scope o name = once None (object_field defs scope o name) (λ f. value_of_field (out-InformationObjectField f))
