-- The text of one level of a value, where its parts have these texts.
use Rattle.std.specs.Prelude.{List, [], ◌∷◌, ◌++◌, Option, codes, map, if◌then◌else◌}
use Rattle.std.specs.Fmt.{signed_decimal}
use Rattle.asn_tree_kinds.specs.declared.values.StructLikeFieldValueOver.{StructLikeFieldValueOver}
use Rattle.asn_tree_kinds.specs.declared.values.StructLikeFieldValueOver.TheVariants.{Explicit, Implicit}
use Rattle.asn_check_listing.specs.Parts.{Letters, around, listed}
use Rattle.asn_check_listing.specs.Words.{arcs_text, bits_text, name_text, octets_text, quoted, real_text}
use Rattle.asn_tree.specs.Layers.{LinkedOf, ValueOf}
use Rattle.asn_tree.specs.declared.values.ASN1Value.{ASN1Value-F}

-- a value between braces, behind its name where it has one
abbrev pub part_line : Option Letters × Letters → Letters
part_line p = around [] p.0 (codes " ") ++ p.1

-- a linked field that was written; those that linking filled in have no text
abbrev pub given_line : Letters → StructLikeFieldValueOver Letters → Letters
given_line name (Explicit v) = name ++ codes " " ++ v
given_line name (Implicit v) = []

abbrev pub field_line : LinkedOf Letters → Letters
field_line f = given_line f.name f.value

-- texts that are there
abbrev pub kept : List Letters → List Letters
kept [] = []
kept ([] ∷ xs) = kept xs
kept ((c ∷ cs) ∷ xs) = (c ∷ cs) ∷ kept xs

-- a chosen alternative (X.680 29.12)
abbrev pub chosen_line : Letters → Letters → Letters
chosen_line name value = name ++ codes " : " ++ value

abbrev pub value_line : ValueOf Letters → Letters
value_line ASN1Value-F.All = codes "ALL"
value_line ASN1Value-F.ASN1Value::Null = codes "NULL"
value_line (ASN1Value-F.ASN1Value::Boolean b) = if b then codes "TRUE" else codes "FALSE"
value_line (ASN1Value-F.ASN1Value::Choice type_name name inner) = chosen_line name inner
value_line (ASN1Value-F.SequenceOrSet parts) = listed (map part_line parts)
value_line (ASN1Value-F.ASN1Value::Integer i) = signed_decimal i
value_line (ASN1Value-F.ASN1Value::Real r) = real_text r
value_line (ASN1Value-F.String text) = quoted text
value_line (ASN1Value-F.ASN1Value::BitString bits) = bits_text bits
value_line (ASN1Value-F.BitStringNamedBits names) = listed names
value_line (ASN1Value-F.ASN1Value::OctetString octets) = octets_text octets
value_line (ASN1Value-F.EnumeratedValue enumerated item) = item
value_line (ASN1Value-F.ASN1Value::Time text) = quoted text
value_line (ASN1Value-F.ElsewhereDeclaredValue parent name) = name_text parent name
value_line (ASN1Value-F.ASN1Value::ObjectIdentifier arcs) = arcs_text arcs.0
value_line (ASN1Value-F.LinkedNestedValue supertypes v) = v
value_line (ASN1Value-F.LinkedIntValue ty i) = signed_decimal i
value_line (ASN1Value-F.LinkedStructLikeValue fields) = listed (kept fields)
value_line (ASN1Value-F.LinkedArrayLikeValue vs) = listed vs
value_line (ASN1Value-F.LinkedCharStringValue ty text) = quoted text
value_line (ASN1Value-F.LinkedElsewhereDefinedValue parent name can_be_const) = name_text parent name
