-- The rules of values.
use Rattle.std.specs.Prelude.{List, ◌∷◌, codes}
use Rattle.asn_rules.specs.Expression.{Expression, many, never, guarded, rule}
use Rattle.asn_rules.specs.declared.marks.Mark.TheVariants as mark
use Rattle.asn_rules.specs.Forms.{any, blank, digit, hex_letter, keyword, keyword_as, literal, maybe, some, sp, symbol, time_mark, ◌¦◌, ◌·◌}
use Rattle.asn_rules_guards.specs.declared.asked.Guard.TheVariants.{FitsReal, FitsU8, IsBase, IsCharacter, IsTime}

-- rules 23 to 53, and the further rules behind them
unfoldable pub value_rules_before : List Expression → List Expression
value_rules_before further =
    -- 23 all_value = 'ALL'
    (keyword (codes "ALL")) ∷
    -- 24 null_value = 'NULL'
    (keyword (codes "NULL")) ∷
    -- 25 object_identifier_value = ('OBJECT' 'IDENTIFIER' / 'RELATIVE-OID')? "{" object_identifier_arc+ "}"
    (maybe ((keyword (codes "OBJECT") · keyword (codes "IDENTIFIER")) ¦ keyword (codes "RELATIVE-OID")) · symbol (codes "{") · some (rule 26) · symbol (codes "}")) ∷
    -- 26 object_identifier_arc = number_u128 / value_identifier "(" number_u128 ")" / value_identifier
    (rule 16 ¦ (rule 10 · symbol (codes "(") · rule 16 · symbol (codes ")")) ¦ rule 10) ∷
    -- 27 choice_value = identifier ":" asn1_value
    (rule 8 · symbol (codes ":") · rule 53) ∷
    -- 28 dot_notation = sp `-`? sp digits `.` digits exponent? {mantissa fits i128, exponent i32}
    (guarded (sp · maybe (literal (codes "-")) · sp · rule 14 · literal (codes ".") · rule 14 · maybe (rule 29)) FitsReal) ∷
    -- 29 exponent = (`e` / `E`) `-`? digits
    ((literal (codes "e") ¦ literal (codes "E")) · maybe (literal (codes "-")) · rule 14) ∷
    -- 30 mbe_notation = "{" 'mantissa' number_i128 "," 'base' real_base "," 'exponent' number_i32 "}"
    (symbol (codes "{") · keyword (codes "mantissa") · rule 17 · symbol (codes ",") · keyword (codes "base") · rule 31 · symbol (codes ",") · keyword (codes "exponent") · rule 18 · symbol (codes "}")) ∷
    -- 31 real_base = number_u64 {2 or 10}
    (guarded (rule 15) IsBase) ∷
    -- 32 real_value = dot_notation / mbe_notation
    (rule 28 ¦ rule 30) ∷
    -- 33 sequence_value = "{" value_list? "}"
    (symbol (codes "{") · maybe (rule 34) · symbol (codes "}")) ∷
    -- 34 value_list = struct_item ("," struct_item)*
    (rule 35 · many (symbol (codes ",") · rule 35)) ∷
    -- 35 struct_item = value_identifier asn1_value / asn1_value
    ((rule 10 · rule 53) ¦ rule 53) ∷
    -- 36 time_chars = (digit / one of +-:.,/CDHMRPSTWYZ)+ {a digit and another byte}
    (guarded (some (digit ¦ time_mark)) IsTime) ∷
    -- 37 time_value = sp `"` time_chars `"`
    (sp · literal (codes "\"") · rule 36 · literal (codes "\"")) ∷
    -- 38 binary = sp `'` (`0` / `1` / blank)* `'B`
    (sp · literal (codes "'") · many (literal (codes "0") ¦ literal (codes "1") ¦ blank) · literal (codes "'B")) ∷
    -- 39 hexadecimal = sp `'` (digit / one of ABCDEF / blank)* `'H`
    (sp · literal (codes "'") · many (digit ¦ hex_letter ¦ blank) · literal (codes "'H")) ∷
    -- 40 name_list = value_identifier ("," value_identifier)*
    (rule 10 · many (symbol (codes ",") · rule 10)) ∷
    -- 41 named_bits = "{" name_list? "}"
    (symbol (codes "{") · maybe (rule 40) · symbol (codes "}")) ∷
    -- 42 bit_string_value = binary / hexadecimal / named_bits
    (rule 38 ¦ rule 39 ¦ rule 41) ∷
    -- 43 boolean_value = 'TRUE' / 'FALSE'
    (keyword_as mark.True (codes "TRUE") ¦ keyword_as mark.False (codes "FALSE")) ∷
    -- 44 integer_value = number_i128
    (rule 17) ∷
    -- 45 quoted_body = (`""` / !`"` any)*
    (many (literal (codes "\"\"") ¦ (never (literal (codes "\"")) · any))) ∷
    -- 46 quoted = sp `"` quoted_body `"`
    (sp · literal (codes "\"") · rule 45 · literal (codes "\"")) ∷
    -- 47 octet_number = number_u64 {at most 255}
    (guarded (rule 15) FitsU8) ∷
    -- 48 quadruple = "{" octet_number "," octet_number "," octet_number "," octet_number "}" {first 0, a character}
    (guarded (symbol (codes "{") · rule 47 · symbol (codes ",") · rule 47 · symbol (codes ",") · rule 47 · symbol (codes ",") · rule 47 · symbol (codes "}")) IsCharacter) ∷
    -- 49 character_string_value = quoted / quadruple
    (rule 46 ¦ rule 48) ∷
    -- 50 path_step = identifier "." "&"
    (rule 8 · symbol (codes ".") · symbol (codes "&")) ∷
    -- 51 value_path = path_step*
    (many (rule 50)) ∷
    -- 52 elsewhere_declared_value = value_path value_identifier
    (rule 51 · rule 10) ∷
    -- 53 asn1_value = all_value / null_value / object_identifier_value / choice_value / real_value / sequence_value / time_value / bit_string_value / boolean_value / integer_value / character_string_value / elsewhere_declared_value
    (rule 23 ¦ rule 24 ¦ rule 25 ¦ rule 27 ¦ rule 32 ¦ rule 33 ¦ rule 37 ¦ rule 42 ¦ rule 43 ¦ rule 44 ¦ rule 49 ¦ rule 52) ∷
    further
