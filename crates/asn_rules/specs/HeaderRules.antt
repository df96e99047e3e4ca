-- The rules of the headers of modules.
use Rattle.std.specs.Prelude.{List, ◌∷◌, codes}
use Rattle.asn_rules.specs.Expression.{Expression, many, never, guarded, rule}
use Rattle.asn_rules.specs.declared.marks.Mark.TheVariants as mark
use Rattle.asn_rules.specs.Forms.{alnum, any, keyword, keyword_as, label_mark, letter, literal, maybe, some, sp, symbol, whole_as, words, ◌¦◌, ◌·◌}
use Rattle.asn_rules_guards.specs.declared.asked.Guard.TheVariants.{HasLabels}

-- rules 162 to 180, and the further rules behind them
unfoldable pub header_rules_before : List Expression → List Expression
header_rules_before further =
    -- 162 iri_labels = (alnum / one of -_~./)+ {no empty label between slashes}
    (guarded (some (alnum ¦ label_mark)) HasLabels) ∷
    -- 163 iri_value = sp `"/` iri_labels `"`
    (sp · literal (codes "\"/") · rule 162 · literal (codes "\"")) ∷
    -- 164 definitive = object_identifier_value iri_value?
    (rule 25 · maybe (rule 163)) ∷
    -- 165 encoding_reference = identifier 'INSTRUCTIONS'
    (rule 8 · keyword (codes "INSTRUCTIONS")) ∷
    -- 166 tag_default = words(AUTOMATIC, IMPLICIT, EXPLICIT) 'TAGS'
    (words (whole_as mark.Automatic (codes "AUTOMATIC") ¦ whole_as mark.Implicit (codes "IMPLICIT") ¦ whole_as mark.Explicit (codes "EXPLICIT")) · keyword (codes "TAGS")) ∷
    -- 167 environments = encoding_reference? tag_default? ('EXTENSIBILITY' 'IMPLIED')?
    (maybe (rule 165) · maybe (rule 166) · maybe (keyword (codes "EXTENSIBILITY") · keyword_as mark.Extensibility (codes "IMPLIED"))) ∷
    -- 168 imported_symbol = identifier "{" "}" / identifier
    ((rule 8 · symbol (codes "{") · symbol (codes "}")) ¦ rule 8) ∷
    -- 169 symbol_list = imported_symbol ("," imported_symbol)*
    (rule 168 · many (symbol (codes ",") · rule 168)) ∷
    -- 170 exports = 'EXPORTS' ('ALL' / symbol_list)? ";"
    (keyword (codes "EXPORTS") · maybe (keyword_as mark.All (codes "ALL") ¦ rule 169) · symbol (codes ";")) ∷
    -- 171 follow = 'FROM' / ","
    (keyword (codes "FROM") ¦ symbol (codes ",")) ∷
    -- 172 assigned_identifier = object_identifier_value / identifier "." value_identifier / value_identifier sp brace_group !follow / value_identifier !follow / !follow
    (rule 25 ¦ (rule 8 · symbol (codes ".") · rule 10) ¦ (rule 10 · sp · rule 125 · never (rule 171)) ¦ (rule 10 · never (rule 171)) ¦ never (rule 171)) ∷
    -- 173 global_module_reference = identifier assigned_identifier
    (rule 8 · rule 172) ∷
    -- 174 import = symbol_list 'FROM' global_module_reference ('WITH' words(SUCCESSORS, DESCENDANTS))?
    (rule 169 · keyword (codes "FROM") · rule 173 · maybe (keyword (codes "WITH") · words (whole_as mark.Successors (codes "SUCCESSORS") ¦ whole_as mark.Descendants (codes "DESCENDANTS")))) ∷
    -- 175 imports = 'IMPORTS' import* ";"
    (keyword (codes "IMPORTS") · many (rule 174) · symbol (codes ";")) ∷
    -- 176 module_reference = identifier definitive? 'DEFINITIONS' environments assignment 'BEGIN' exports? imports?
    (rule 8 · maybe (rule 164) · keyword (codes "DEFINITIONS") · rule 167 · rule 22 · keyword (codes "BEGIN") · maybe (rule 170) · maybe (rule 175)) ∷
    -- 177 encoding_text = (!'END' (letter name_tail / any))*
    (many (never (keyword (codes "END")) · ((letter · rule 7) ¦ any))) ∷
    -- 178 encoding_control = 'ENCODING-CONTROL' encoding_text 'END'
    (keyword (codes "ENCODING-CONTROL") · rule 177 · keyword (codes "END")) ∷
    -- 179 end = 'END' / encoding_control
    (keyword (codes "END") ¦ rule 178) ∷
    -- 180 comments = item_comment*
    (many (rule 92)) ∷
    further
