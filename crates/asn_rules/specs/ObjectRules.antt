-- The rules of object classes, objects and object sets.
use Rattle.std.specs.Prelude.{List, ◌∷◌, codes}
use Rattle.asn_rules.specs.Expression.{Expression, many, guarded, rule}
use Rattle.asn_rules.specs.declared.marks.Mark.TheVariants as mark
use Rattle.asn_rules.specs.Forms.{ahead, keyword, keyword_as, literal, lower, maybe, some, sp, symbol, symbol_as, upper, ◌¦◌, ◌·◌}
use Rattle.asn_rules_guards.specs.declared.asked.Guard.TheVariants.{NoKeyword}

-- rules 140 to 161, and the further rules behind them
unfoldable pub object_rules_before : List Expression → List Expression
object_rules_before further =
    -- 140 single_value_field_id = sp `&` lower name_tail
    (sp · literal (codes "&") · lower · rule 7) ∷
    -- 141 multiple_value_field_id = sp `&` upper name_tail
    (sp · literal (codes "&") · upper · rule 7) ∷
    -- 142 object_field_identifier = single_value_field_id / multiple_value_field_id
    (rule 140 ¦ rule 141) ∷
    -- 143 type_identifier = 'TYPE-IDENTIFIER'
    (keyword (codes "TYPE-IDENTIFIER")) ∷
    -- 144 class_field = object_field_identifier asn1_type? 'UNIQUE'? optional_marker default
    (rule 142 · maybe (rule 101) · maybe (keyword_as mark.Unique (codes "UNIQUE")) · rule 71 · rule 72) ∷
    -- 145 field_list = (class_field ","?)*
    (many (rule 144 · maybe (symbol (codes ",")))) ∷
    -- 146 syntax_literal = uppercase_identifier
    (rule 12) ∷
    -- 147 syntax_group = "[" syntax_item+ "]"
    (symbol (codes "[") · some (rule 148) · symbol (codes "]")) ∷
    -- 148 syntax_item = syntax_literal / object_field_identifier / "," / syntax_group
    (rule 146 ¦ rule 142 ¦ symbol_as mark.Comma (codes ",") ¦ rule 147) ∷
    -- 149 syntax_part = 'WITH' 'SYNTAX' "{" syntax_item+ "}"
    (keyword (codes "WITH") · keyword (codes "SYNTAX") · symbol (codes "{") · some (rule 148) · symbol (codes "}")) ∷
    -- 150 information_object_class = 'CLASS' "{" field_list "}" syntax_part?
    (keyword (codes "CLASS") · symbol (codes "{") · rule 145 · symbol (codes "}") · maybe (rule 149)) ∷
    -- 151 default_field = single_value_field_id asn1_value / multiple_value_field_id object_set / multiple_value_field_id asn1_type
    ((rule 140 · rule 53) ¦ (rule 141 · rule 161) ¦ (rule 141 · rule 101)) ∷
    -- 152 default_syntax = (default_field ","?)+
    (some (rule 151 · maybe (symbol (codes ",")))) ∷
    -- 153 literal_word = uppercase_identifier &"{" {no keyword}
    (guarded (rule 12 · ahead (symbol (codes "{"))) NoKeyword) ∷
    -- 154 custom_item = "," / literal_word / asn1_type / asn1_value / object_set / syntax_literal
    (symbol_as mark.Comma (codes ",") ¦ rule 153 ¦ rule 101 ¦ rule 53 ¦ rule 161 ¦ rule 146) ∷
    -- 155 custom_syntax = custom_item+
    (some (rule 154)) ∷
    -- 156 information_object = "{" (default_syntax / custom_syntax) "}"
    (symbol (codes "{") · (rule 152 ¦ rule 155) · symbol (codes "}")) ∷
    -- 157 object_item = information_object / identifier
    (rule 156 ¦ rule 8) ∷
    -- 158 object_list = object_item (("|" / 'UNION') object_item)*
    (rule 157 · many ((symbol (codes "|") ¦ keyword (codes "UNION")) · rule 157)) ∷
    -- 159 set_mark = ","? "..."
    (maybe (symbol (codes ",")) · symbol (codes "...")) ∷
    -- 160 set_more = "," object_list
    (symbol (codes ",") · rule 158) ∷
    -- 161 object_set = "{" object_list? set_mark? set_more? "}"
    (symbol (codes "{") · maybe (rule 158) · maybe (rule 159) · maybe (rule 160) · symbol (codes "}")) ∷
    further
