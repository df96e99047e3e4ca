-- The rules of definitions and modules.
use Rattle.std.specs.Prelude.{List, ◌∷◌}
use Rattle.asn_rules.specs.Expression.{Expression, many, never, rule}
use Rattle.asn_rules.specs.Forms.{any, maybe, some, sp, ◌¦◌, ◌·◌}

-- rules 181 to 190, and the further rules behind them
unfoldable pub definition_rules_before : List Expression → List Expression
definition_rules_before further =
    -- 181 top_level_information_object_declaration = comments identifier parameterization? class_name assignment information_object
    (rule 180 · rule 8 · maybe (rule 139) · rule 13 · rule 22 · rule 156) ∷
    -- 182 top_level_object_set_declaration = comments identifier parameterization? class_name assignment object_set
    (rule 180 · rule 8 · maybe (rule 139) · rule 13 · rule 22 · rule 161) ∷
    -- 183 top_level_object_class_declaration = comments uppercase_identifier parameterization? assignment (type_identifier / information_object_class)
    (rule 180 · rule 12 · maybe (rule 139) · rule 22 · (rule 143 ¦ rule 150)) ∷
    -- 184 top_level_information_declaration = top_level_information_object_declaration / top_level_object_set_declaration / top_level_object_class_declaration
    (rule 181 ¦ rule 182 ¦ rule 183) ∷
    -- 185 top_level_type_declaration = comments title_case_identifier parameterization? assignment asn_tag? asn1_type
    (rule 180 · rule 9 · maybe (rule 139) · rule 22 · maybe (rule 73) · rule 101) ∷
    -- 186 enumerated_value = comments value_identifier parameterization? asn1_type assignment value_identifier
    (rule 180 · rule 10 · maybe (rule 139) · rule 101 · rule 22 · rule 10) ∷
    -- 187 top_level_value_declaration = comments value_identifier parameterization? asn1_type assignment asn1_value / enumerated_value
    ((rule 180 · rule 10 · maybe (rule 139) · rule 101 · rule 22 · rule 53) ¦ rule 186) ∷
    -- 188 definition = top_level_information_declaration / top_level_type_declaration / top_level_value_declaration
    (rule 184 ¦ rule 185 ¦ rule 187) ∷
    -- 189 asn_module = module_reference definition* end
    (rule 176 · many (rule 188) · rule 179) ∷
    -- 190 asn_spec = asn_module+ sp !any
    (some (rule 189) · sp · never any) ∷
    further
