-- The lexical rules, with which each table begins (X.680 12).
use Rattle.std.specs.Prelude.{List, ◌∷◌, codes}
use Rattle.asn_rules.specs.Expression.{Expression, many, never, guarded, rule}
use Rattle.asn_rules.specs.Forms.{◌·◌, ◌¦◌, sp, literal, symbol, maybe, some, no_rule, letter, lower, digit, alnum, cap, blank, line_feed, any}
use Rattle.asn_rules_guards.specs.declared.asked.Guard.TheVariants.{NoKeyword, NamesClass, FitsU64, FitsU128, FitsI128, FitsI32}

-- rules 1 to 22, and the further rules behind them
unfoldable pub lexical_rules_before : List Expression → List Expression
lexical_rules_before further =
    no_rule ∷
    -- 1 sp = (blank / comment)*
    (many (blank ¦ rule 2)) ∷
    -- 2 comment = block_comment / line_comment
    (rule 3 ¦ rule 5) ∷
    -- 3 block_comment = `/*` comment_body `*/`
    (literal (codes "/*") · rule 4 · literal (codes "*/")) ∷
    -- 4 comment_body = (block_comment / !`/*` !`*/` any)*
    (many (rule 3 ¦ (never (literal (codes "/*")) · never (literal (codes "*/")) · any))) ∷
    -- 5 line_comment = `--` line_body `--`?
    (literal (codes "--") · rule 6 · maybe (literal (codes "--"))) ∷
    -- 6 line_body = (!`--` !LF any)*
    (many (never (literal (codes "--")) · never line_feed · any)) ∷
    -- 7 name_tail = (alnum / `-` alnum)*
    (many (alnum ¦ (literal (codes "-") · alnum))) ∷
    -- 8 identifier = sp letter name_tail
    (sp · letter · rule 7) ∷
    -- 9 title_case_identifier = sp cap name_tail {no keyword}
    (guarded (sp · cap · rule 7) NoKeyword) ∷
    -- 10 value_identifier = sp lower name_tail
    (sp · lower · rule 7) ∷
    -- 11 caps_tail = (cap / `-` cap)*
    (many (cap ¦ (literal (codes "-") · cap))) ∷
    -- 12 uppercase_identifier = sp cap caps_tail !(alnum / `-` alnum)
    (sp · cap · rule 11 · never (alnum ¦ (literal (codes "-") · alnum))) ∷
    -- 13 class_name = uppercase_identifier {no keyword, or TYPE-IDENTIFIER, or ABSTRACT-SYNTAX}
    (guarded (rule 12) NamesClass) ∷
    -- 14 digits = digit+
    some digit ∷
    -- 15 number_u64 = sp digits {fits u64}
    (guarded (sp · rule 14) FitsU64) ∷
    -- 16 number_u128 = sp digits {fits u128}
    (guarded (sp · rule 14) FitsU128) ∷
    -- 17 number_i128 = sp `-`? sp digits {fits i128}
    (guarded (sp · maybe (literal (codes "-")) · sp · rule 14) FitsI128) ∷
    -- 18 number_i32 = sp `-`? sp digits {fits i32}
    (guarded (sp · maybe (literal (codes "-")) · sp · rule 14) FitsI32) ∷
    -- 19 optional_comma = ","?
    maybe (symbol (codes ",")) ∷
    -- 20 range_seperator = ".."
    symbol (codes "..") ∷
    -- 21 extension_marker = "..."
    symbol (codes "...") ∷
    -- 22 assignment = "::="
    symbol (codes "::=") ∷
    further
