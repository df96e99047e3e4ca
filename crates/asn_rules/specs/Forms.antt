-- The forms of a row. "x" and 'X' skip blanks and comments; 'X' is a whole word.
use Rattle.std.specs.Prelude.{ℕ, List, [], codes}
use Rattle.asn_rules.specs.declared.marks.Mark.{Mark}
use Rattle.asn_rules.specs.Expression.{Expression, see, marked, seq, choice, many, never, rule, skip, bytes, word, one_of}
use Rattle.asn_rules_guards.specs.declared.asked.ByteClass.TheVariants.{Blank, Digit, Letter, Lower, Upper, Alnum, Cap, HexLetter, TimeMark, LabelMark, LineFeed, Any}

infixr 7 ◌·◌
abbrev pub ◌·◌ : Expression → Expression → Expression
a · b = seq a b

infixr 6 ◌¦◌
abbrev pub ◌¦◌ : Expression → Expression → Expression
a ¦ b = choice a b

abbrev pub sp : Expression
sp = rule 1

-- the blanks and comments before a literal
abbrev pub gap : Expression
gap = skip 1

abbrev pub literal : List ℕ → Expression
literal x = see (bytes x)

abbrev pub whole : List ℕ → Expression
whole x = see (word x)

abbrev pub symbol : List ℕ → Expression
symbol x = gap · literal x

abbrev pub keyword : List ℕ → Expression
keyword x = gap · whole x

-- the same, which leave a leaf
abbrev pub whole_as : Mark → List ℕ → Expression
whole_as m x = marked m (word x)

abbrev pub symbol_as : Mark → List ℕ → Expression
symbol_as m x = gap · marked m (bytes x)

abbrev pub keyword_as : Mark → List ℕ → Expression
keyword_as m x = gap · marked m (word x)

abbrev pub maybe : Expression → Expression
maybe a = a ¦ literal []

abbrev pub some : Expression → Expression
some a = a · many a

-- in parentheses, or without
abbrev pub parens : Expression → Expression
parens a = (symbol (codes "(") · a · symbol (codes ")")) ¦ a

-- one of these words, behind blanks and comments
abbrev pub words : Expression → Expression
words a = gap · a

-- it stands here, and nothing is taken
abbrev pub ahead : Expression → Expression
ahead a = never (never a)

abbrev pub no_rule : Expression
no_rule = never (literal [])

abbrev pub letter : Expression
letter = see (one_of Letter)

abbrev pub digit : Expression
digit = see (one_of Digit)

abbrev pub alnum : Expression
alnum = see (one_of Alnum)

abbrev pub cap : Expression
cap = see (one_of Cap)

abbrev pub blank : Expression
blank = see (one_of Blank)

abbrev pub lower : Expression
lower = see (one_of Lower)

abbrev pub upper : Expression
upper = see (one_of Upper)

abbrev pub hex_letter : Expression
hex_letter = see (one_of HexLetter)

abbrev pub time_mark : Expression
time_mark = see (one_of TimeMark)

abbrev pub label_mark : Expression
label_mark = see (one_of LabelMark)

abbrev pub line_feed : Expression
line_feed = see (one_of LineFeed)

abbrev pub any : Expression
any = see (one_of Any)
