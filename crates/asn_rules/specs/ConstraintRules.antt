-- The rules of constraints, and of what is handed to templates.
use Rattle.std.specs.Prelude.{List, ◌∷◌, codes}
use Rattle.asn_rules.specs.Expression.{Expression, many, never, guarded, rule}
use Rattle.asn_rules.specs.declared.marks.Mark.TheVariants as mark
use Rattle.asn_rules.specs.Forms.{any, keyword, keyword_as, literal, maybe, parens, some, sp, symbol, symbol_as, whole_as, words, ◌¦◌, ◌·◌}
use Rattle.asn_rules_guards.specs.declared.asked.Guard.TheVariants.{IsSetting}

-- rules 102 to 139, and the further rules behind them
unfoldable pub constraint_rules_before : List Expression → List Expression
constraint_rules_before further =
    -- 102 constraint = constraint_item+
    (some (rule 103)) ∷
    -- 103 constraint_item = single_constraint / size_constraint / parameters
    (rule 104 ¦ rule 122 ¦ rule 137) ∷
    -- 104 single_constraint = "(" (content_constraint / table_constraint / element_set) ")"
    (symbol (codes "(") · (rule 106 ¦ rule 110 ¦ rule 111) · symbol (codes ")")) ∷
    -- 105 content_body = 'CONTAINING' asn1_type 'ENCODED' 'BY' asn1_value / 'CONTAINING' asn1_type / 'ENCODED' 'BY' asn1_value
    ((keyword (codes "CONTAINING") · rule 101 · keyword (codes "ENCODED") · keyword (codes "BY") · rule 53) ¦ (keyword (codes "CONTAINING") · rule 101) ¦ (keyword (codes "ENCODED") · keyword (codes "BY") · rule 53)) ∷
    -- 106 content_constraint = par(content_body)
    (parens (rule 105)) ∷
    -- 107 relational_constraint = "@" dots identifier
    (symbol (codes "@") · rule 108 · rule 8) ∷
    -- 108 dots = `.`*
    (many (literal (codes "."))) ∷
    -- 109 relations = "{" relational_constraint ("," relational_constraint)* "}"
    (symbol (codes "{") · rule 107 · many (symbol (codes ",") · rule 107) · symbol (codes "}")) ∷
    -- 110 table_constraint = par(object_set relations?)
    (parens (rule 161 · maybe (rule 109))) ∷
    -- 111 element_set = set_rest extension_tail?
    (rule 112 · maybe (rule 116)) ∷
    -- 112 set_rest = set_operation / subtype_element
    (rule 113 ¦ rule 117) ∷
    -- 113 set_operation = subtype_element set_operator set_rest
    (rule 117 · rule 114 · rule 112) ∷
    -- 114 set_operator = 'INTERSECTION' / "^" / 'UNION' / "|" / 'EXCEPT'
    (keyword_as mark.Intersection (codes "INTERSECTION") ¦ symbol_as mark.Intersection (codes "^") ¦ keyword_as mark.Union (codes "UNION") ¦ symbol_as mark.Union (codes "|") ¦ keyword_as mark.Except (codes "EXCEPT")) ∷
    -- 115 additions = ("," set_rest)+
    (some (symbol (codes ",") · rule 112)) ∷
    -- 116 extension_tail = "," "..." additions?
    (symbol (codes ",") · symbol (codes "...") · maybe (rule 115)) ∷
    -- 117 subtype_element = single_type_constraint / multiple_type_constraints / size_constraint / pattern_constraint / user_defined_constraint / property_settings_constraint / permitted_alphabet_constraint / value_range / single_value / contained_subtype
    (rule 118 ¦ rule 120 ¦ rule 122 ¦ rule 123 ¦ rule 126 ¦ rule 128 ¦ rule 129 ¦ rule 133 ¦ rule 134 ¦ rule 135) ∷
    -- 118 single_type_constraint = par('WITH' 'COMPONENT' constraint)
    (parens (keyword (codes "WITH") · keyword (codes "COMPONENT") · rule 102)) ∷
    -- 119 member_list = (subset_member ","?)+
    (some (rule 121 · maybe (symbol (codes ",")))) ∷
    -- 120 multiple_type_constraints = par('WITH' 'COMPONENTS' "{" ("..." ",")? member_list "}")
    (parens (keyword (codes "WITH") · keyword (codes "COMPONENTS") · symbol (codes "{") · maybe (symbol_as mark.Partial (codes "...") · symbol (codes ",")) · rule 119 · symbol (codes "}"))) ∷
    -- 121 subset_member = identifier constraint? words(PRESENT, ABSENT, OPTIONAL)?
    (rule 8 · maybe (rule 102) · maybe (words (whole_as mark.Present (codes "PRESENT") ¦ whole_as mark.Absent (codes "ABSENT") ¦ whole_as mark.Optional (codes "OPTIONAL")))) ∷
    -- 122 size_constraint = par('SIZE' "(" element_set ")")
    (parens (keyword (codes "SIZE") · symbol (codes "(") · rule 111 · symbol (codes ")"))) ∷
    -- 123 pattern_constraint = par('PATTERN' quoted)
    (parens (keyword (codes "PATTERN") · rule 46)) ∷
    -- 124 brace_text = (brace_group / !`{` !`}` any)*
    (many (rule 125 ¦ (never (literal (codes "{")) · never (literal (codes "}")) · any))) ∷
    -- 125 brace_group = `{` brace_text `}`
    (literal (codes "{") · rule 124 · literal (codes "}")) ∷
    -- 126 user_defined_constraint = par('CONSTRAINED' 'BY' sp brace_group)
    (parens (keyword (codes "CONSTRAINED") · keyword (codes "BY") · sp · rule 125)) ∷
    -- 127 setting_pair = words(Basic, Date, Year, Time, Local-or-UTC, Interval-type, SE-point, Recurrence, Midnight) `=` identifier {the pair is a setting}
    (guarded (words (whole_as mark.Basic (codes "Basic") ¦ whole_as mark.Date (codes "Date") ¦ whole_as mark.Year (codes "Year") ¦ whole_as mark.Time (codes "Time") ¦ whole_as mark.LocalOrUtc (codes "Local-or-UTC") ¦ whole_as mark.IntervalType (codes "Interval-type") ¦ whole_as mark.SePoint (codes "SE-point") ¦ whole_as mark.Recurrence (codes "Recurrence") ¦ whole_as mark.Midnight (codes "Midnight")) · literal (codes "=") · rule 8) IsSetting) ∷
    -- 128 property_settings_constraint = 'SETTINGS' sp `"` setting_pair+ sp `"`
    (keyword (codes "SETTINGS") · sp · literal (codes "\"") · some (rule 127) · sp · literal (codes "\"")) ∷
    -- 129 permitted_alphabet_constraint = par('FROM' "(" set_rest ")")
    (parens (keyword (codes "FROM") · symbol (codes "(") · rule 112 · symbol (codes ")"))) ∷
    -- 130 range_low = 'MIN' / asn1_value
    (keyword (codes "MIN") ¦ rule 53) ∷
    -- 131 range_high = 'MAX' / asn1_value
    (keyword (codes "MAX") ¦ rule 53) ∷
    -- 132 range_body = range_low ("<" / ">")? range_seperator "<"? range_high
    (rule 130 · maybe (symbol_as mark.LowOpen (codes "<") ¦ symbol_as mark.LowOpen (codes ">")) · rule 20 · maybe (symbol_as mark.HighOpen (codes "<")) · rule 131) ∷
    -- 133 value_range = par(range_body extension_tail?)
    (parens (rule 132 · maybe (rule 116))) ∷
    -- 134 single_value = par(asn1_value extension_tail?)
    (parens (rule 53 · maybe (rule 116))) ∷
    -- 135 contained_subtype = par('INCLUDES'? asn1_type extension_tail?)
    (parens (maybe (keyword (codes "INCLUDES")) · rule 101 · maybe (rule 116))) ∷
    -- 136 parameter = asn1_value / asn1_type / object_set / information_object
    (rule 53 ¦ rule 101 ¦ rule 161 ¦ rule 156) ∷
    -- 137 parameters = "{" parameter ("," parameter)* "}"
    (symbol (codes "{") · rule 136 · many (symbol (codes ",") · rule 136) · symbol (codes "}")) ∷
    -- 138 dummy = asn1_type ":" value_identifier / value_identifier / identifier ":" identifier / identifier
    ((rule 101 · symbol (codes ":") · rule 10) ¦ rule 10 ¦ (rule 8 · symbol (codes ":") · rule 8) ¦ rule 8) ∷
    -- 139 parameterization = "{" dummy ("," dummy)* "}"
    (symbol (codes "{") · rule 138 · many (symbol (codes ",") · rule 138) · symbol (codes "}")) ∷
    further
