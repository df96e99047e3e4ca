-- The rules of types.
use Rattle.std.specs.Prelude.{List, ◌∷◌, codes}
use Rattle.asn_rules.specs.Expression.{Expression, guarded, many, rule}
use Rattle.asn_rules_guards.specs.declared.asked.Guard.TheVariants.{NumbersFit}
use Rattle.asn_rules.specs.declared.marks.Mark.TheVariants as mark
use Rattle.asn_rules.specs.Forms.{blank, keyword, keyword_as, maybe, some, symbol, whole_as, words, ◌¦◌, ◌·◌}

-- rules 54 to 101, and the further rules behind them
unfoldable pub type_rules_before : List Expression → List Expression
type_rules_before further =
    -- 54 null = 'NULL'
    (keyword (codes "NULL")) ∷
    -- 55 selection_type_choice = value_identifier "<" title_case_identifier
    (rule 10 · symbol (codes "<") · rule 9) ∷
    -- 56 object_identifier = ('OBJECT' 'IDENTIFIER' / 'RELATIVE-OID') constraint?
    (((keyword (codes "OBJECT") · keyword (codes "IDENTIFIER")) ¦ keyword (codes "RELATIVE-OID")) · maybe (rule 102)) ∷
    -- 57 element = value_identifier asn1_type / asn1_type
    ((rule 10 · rule 101) ¦ rule 101) ∷
    -- 58 sequence_of = 'SEQUENCE' constraint? 'OF' element
    (keyword (codes "SEQUENCE") · maybe (rule 102) · keyword (codes "OF") · rule 57) ∷
    -- 59 set_of = 'SET' constraint? 'OF' element
    (keyword (codes "SET") · maybe (rule 102) · keyword (codes "OF") · rule 57) ∷
    -- 60 sequence = 'SEQUENCE' struct_body constraint?
    (keyword (codes "SEQUENCE") · rule 62 · maybe (rule 102)) ∷
    -- 61 set = 'SET' struct_body constraint?
    (keyword (codes "SET") · rule 62 · maybe (rule 102)) ∷
    -- 62 struct_body = "{" component_list extension_mark? addition_list "}"
    (symbol (codes "{") · rule 64 · maybe (rule 63) · rule 65 · symbol (codes "}")) ∷
    -- 63 extension_mark = extension_marker ","?
    (rule 21 · maybe (symbol (codes ","))) ∷
    -- 64 component_list = (sequence_component ","?)*
    (many (rule 69 · maybe (symbol (codes ",")))) ∷
    -- 65 addition_list = ((extension_group / sequence_component) ","?)*
    (many ((rule 66 ¦ rule 69) · maybe (symbol (codes ",")))) ∷
    -- 66 extension_group = "[" "[" group_number? (sequence_component ","?)+ "]" "]"
    (symbol (codes "[") · symbol (codes "[") · maybe (rule 67) · some (rule 69 · maybe (symbol (codes ","))) · symbol (codes "]") · symbol (codes "]")) ∷
    -- 67 group_number = number_i128 ":"
    (rule 17 · symbol (codes ":")) ∷
    -- 68 component_path = identifier ("." "&" identifier)*
    (rule 8 · many (symbol (codes ".") · symbol (codes "&") · rule 8)) ∷
    -- 69 sequence_component = 'COMPONENTS' 'OF' component_path / sequence_or_set_member
    ((keyword (codes "COMPONENTS") · keyword (codes "OF") · rule 68) ¦ rule 70) ∷
    -- 70 sequence_or_set_member = identifier asn_tag? asn1_type constraint? optional_marker default
    (rule 8 · maybe (rule 73) · rule 101 · maybe (rule 102) · rule 71 · rule 72) ∷
    -- 71 optional_marker = 'OPTIONAL'?
    (maybe (keyword_as mark.Optional (codes "OPTIONAL"))) ∷
    -- 72 default = ('DEFAULT' asn1_value)?
    (maybe (keyword (codes "DEFAULT") · rule 53)) ∷
    -- 73 asn_tag = "[" words(PRIVATE, APPLICATION, UNIVERSAL)? number_u64 "]" words(EXPLICIT, IMPLICIT)?
    (symbol (codes "[") · maybe (words (whole_as mark.Private (codes "PRIVATE") ¦ whole_as mark.Application (codes "APPLICATION") ¦ whole_as mark.Universal (codes "UNIVERSAL"))) · rule 15 · symbol (codes "]") · maybe (words (whole_as mark.Explicit (codes "EXPLICIT") ¦ whole_as mark.Implicit (codes "IMPLICIT")))) ∷
    -- 74 utc_time = 'UTCTime' constraint?
    (keyword (codes "UTCTime") · maybe (rule 102)) ∷
    -- 75 external = 'EXTERNAL'
    (keyword (codes "EXTERNAL")) ∷
    -- 76 embedded_pdv = 'EMBEDDED' 'PDV'
    (keyword (codes "EMBEDDED") · keyword (codes "PDV")) ∷
    -- 77 instance_of = 'INSTANCE' 'OF' class_name constraint?
    (keyword (codes "INSTANCE") · keyword (codes "OF") · rule 13 · maybe (rule 102)) ∷
    -- 78 generalized_time = 'GeneralizedTime' constraint?
    (keyword (codes "GeneralizedTime") · maybe (rule 102)) ∷
    -- 79 real = 'REAL' constraint?
    (keyword (codes "REAL") · maybe (rule 102)) ∷
    -- 80 choice = 'CHOICE' "{" option_list extension_mark? option_additions "}"
    (keyword (codes "CHOICE") · symbol (codes "{") · rule 81 · maybe (rule 63) · rule 82 · symbol (codes "}")) ∷
    -- 81 option_list = (choice_option ","?)*
    (many (rule 84 · maybe (symbol (codes ",")))) ∷
    -- 82 option_additions = ((option_group / choice_option) ","?)*
    (many ((rule 83 ¦ rule 84) · maybe (symbol (codes ",")))) ∷
    -- 83 option_group = "[" "[" group_number? (choice_option ","?)+ "]" "]"
    (symbol (codes "[") · symbol (codes "[") · maybe (rule 67) · some (rule 84 · maybe (symbol (codes ","))) · symbol (codes "]") · symbol (codes "]")) ∷
    -- 84 choice_option = identifier asn_tag? asn1_type constraint?
    (rule 8 · maybe (rule 73) · rule 101 · maybe (rule 102)) ∷
    -- 85 integer = 'INTEGER' distinguished_values? constraint?
    (keyword (codes "INTEGER") · maybe (rule 86) · maybe (rule 102)) ∷
    -- 86 distinguished_values = "{" (distinguished_val ","?)* "}"
    (symbol (codes "{") · many (rule 87 · maybe (symbol (codes ","))) · symbol (codes "}")) ∷
    -- 87 distinguished_val = identifier "(" number_i128 ")"
    (rule 8 · symbol (codes "(") · rule 17 · symbol (codes ")")) ∷
    -- 88 enumerated = 'ENUMERATED' "{" enumeral_list extension_mark? enumeral_list "}" {the numbers of all items are of 128 bits}
    (guarded (keyword (codes "ENUMERATED") · symbol (codes "{") · rule 89 · maybe (rule 63) · rule 89 · symbol (codes "}")) NumbersFit) ∷
    -- 89 enumeral_list = enumeral*
    (many (rule 90)) ∷
    -- 90 enumeral = identifier item_number? ","? item_comment?
    (rule 8 · maybe (rule 91) · maybe (symbol (codes ",")) · maybe (rule 92)) ∷
    -- 91 item_number = "(" number_i128 ")"
    (symbol (codes "(") · rule 17 · symbol (codes ")")) ∷
    -- 92 item_comment = blank* comment
    (many blank · rule 2) ∷
    -- 93 boolean = 'BOOLEAN' constraint?
    (keyword (codes "BOOLEAN") · maybe (rule 102)) ∷
    -- 94 bit_string = 'BIT' 'STRING' distinguished_values? constraint?
    (keyword (codes "BIT") · keyword (codes "STRING") · maybe (rule 86) · maybe (rule 102)) ∷
    -- 95 time = 'TIME' constraint?
    (keyword (codes "TIME") · maybe (rule 102)) ∷
    -- 96 octet_string = 'OCTET' 'STRING' constraint?
    (keyword (codes "OCTET") · keyword (codes "STRING") · maybe (rule 102)) ∷
    -- 97 character_string = words(IA5String, UTF8String, NumericString, VisibleString, TeletexString, VideotexString, GraphicString, GeneralString, UniversalString, BMPString, PrintableString) constraint?
    (words (whole_as mark.Ia5String (codes "IA5String") ¦ whole_as mark.Utf8String (codes "UTF8String") ¦ whole_as mark.NumericString (codes "NumericString") ¦ whole_as mark.VisibleString (codes "VisibleString") ¦ whole_as mark.TeletexString (codes "TeletexString") ¦ whole_as mark.VideotexString (codes "VideotexString") ¦ whole_as mark.GraphicString (codes "GraphicString") ¦ whole_as mark.GeneralString (codes "GeneralString") ¦ whole_as mark.UniversalString (codes "UniversalString") ¦ whole_as mark.BmpString (codes "BMPString") ¦ whole_as mark.PrintableString (codes "PrintableString")) · maybe (rule 102)) ∷
    -- 98 field_step = "." object_field_identifier
    (symbol (codes ".") · rule 142) ∷
    -- 99 information_object_field_reference = class_name field_step+ constraint?
    (rule 13 · some (rule 98) · maybe (rule 102)) ∷
    -- 100 elsewhere_declared_type = value_path title_case_identifier constraint?
    (rule 51 · rule 9 · maybe (rule 102)) ∷
    -- 101 asn1_type = null / selection_type_choice / object_identifier / sequence_of / sequence / set_of / set / utc_time / external / embedded_pdv / instance_of / generalized_time / real / choice / integer / enumerated / boolean / bit_string / time / octet_string / character_string / information_object_field_reference / elsewhere_declared_type
    (rule 54 ¦ rule 55 ¦ rule 56 ¦ rule 58 ¦ rule 60 ¦ rule 59 ¦ rule 61 ¦ rule 74 ¦ rule 75 ¦ rule 76 ¦ rule 77 ¦ rule 78 ¦ rule 79 ¦ rule 80 ¦ rule 85 ¦ rule 88 ¦ rule 93 ¦ rule 94 ¦ rule 95 ¦ rule 96 ¦ rule 97 ¦ rule 99 ¦ rule 100) ∷
    further
