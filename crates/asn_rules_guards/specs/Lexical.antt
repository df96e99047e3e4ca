-- Bytes and words (X.680 11 and 12).
use Rattle.std.specs.Prelude.{ℕ, List, [], ◌∷◌, Bool, true, false, ◌&&◌, ◌||◌, not, nat_eq, nat_le, length, drop, codes}
use Rattle.std.specs.List.{starts_with, list_any}
use Rattle.asn_rules_guards.specs.declared.asked.ByteClass.{ByteClass}
use Rattle.asn_rules_guards.specs.declared.asked.ByteClass.TheVariants.{Blank, Digit, Letter, Lower, Upper, Alnum, Cap, HexLetter, TimeMark, LabelMark, LineFeed, Any}
use Rattle.asn_rules_guards.specs.declared.asked.Sight as code
use Rattle.asn_rules_guards.specs.declared.asked.Sight.TheVariants.{Bytes, Word, OneOf}

-- what can stand at an offset: these bytes, these as a whole word, one byte of a class
pub data Sight : Type 0 where
  bytes : List ℕ → Sight
  word : List ℕ → Sight
  one_of : ByteClass → Sight

-- The code's, without its pointers.
abbrev pub sight : code.Sight → Sight
sight (Bytes b) = bytes b.now
sight (Word w) = word w.now
sight (OneOf c) = one_of c

abbrev pub between : ℕ → ℕ → ℕ → Bool
between low high b = nat_le low b && nat_le b high

-- codes of ASCII (X.680 12.1.6 has the blanks)
abbrev pub in_class : ByteClass → ℕ → Bool
in_class Blank b = nat_eq b 32 || between 9 13 b
in_class Digit b = between 48 57 b
in_class Lower b = between 97 122 b
in_class Upper b = between 65 90 b
in_class Letter b = between 65 90 b || between 97 122 b
in_class Alnum b = between 48 57 b || (between 65 90 b || between 97 122 b)
in_class Cap b = between 65 90 b || between 48 57 b
in_class HexLetter b = between 65 70 b
in_class TimeMark b = list_any (nat_eq b) (codes "+-:.,/CDHMRPSTWYZ")
in_class LabelMark b = list_any (nat_eq b) (codes "-_~./")
in_class LineFeed b = nat_eq b 10
in_class Any b = true

abbrev pub is_blank : ℕ → Bool
is_blank b = in_class Blank b

abbrev pub is_digit : ℕ → Bool
is_digit b = in_class Digit b

abbrev pub is_alnum : ℕ → Bool
is_alnum b = in_class Alnum b

-- no letter or digit, and no hyphen with one behind it (X.680 12.2.1 and 12.3)
abbrev pub word_ends : List ℕ → Bool
word_ends [] = true
word_ends (b ∷ []) = not (is_alnum b)
word_ends (b ∷ c ∷ rest) = not (is_alnum b || (nat_eq b 45 && is_alnum c))

abbrev pub first_in : ByteClass → List ℕ → Bool
first_in c [] = false
first_in c (b ∷ rest) = in_class c b

-- what stands in front of the rest of a text, and its length
abbrev pub stands : Sight → List ℕ → Bool
stands (bytes x) rest = starts_with nat_eq rest x
stands (word x) rest = starts_with nat_eq rest x && word_ends (drop (length x) rest)
stands (one_of c) rest = first_in c rest

abbrev pub width : Sight → ℕ
width (bytes x) = length x
width (word x) = length x
width (one_of c) = 1

-- words that name no type: of the reserved words of X.680 12.38 those that the rules ask for, some in pairs
unfoldable pub keywords : List (List ℕ)
keywords =
    codes "ABSTRACT-SYNTAX" ∷
    codes "BIT" ∷
    codes "CHARACTER" ∷
    codes "CONTAINING" ∷
    codes "DATE" ∷
    codes "DATE-TIME" ∷
    codes "DURATION" ∷
    codes "EMBEDDED PDV" ∷
    codes "EXTERNAL" ∷
    codes "INSTANCE OF" ∷
    codes "MINUS-INFINITY" ∷
    codes "NOT-A-NUMBER" ∷
    codes "OBJECT" ∷
    codes "OCTET" ∷
    codes "OID-IRI" ∷
    codes "PLUS-INFINITY" ∷
    codes "RELATIVE-OID" ∷
    codes "RELATIVE-OID-IRI" ∷
    codes "TIME" ∷
    codes "TIME-OF-DAY" ∷
    codes "TYPE-IDENTIFIER" ∷
    codes "SIZE" ∷
    codes "DEFAULT" ∷
    codes "OPTIONAL" ∷
    codes "WITH COMPONENTS" ∷
    codes "WITH COMPONENT" ∷
    codes "UNION" ∷
    codes "EXCEPT" ∷
    codes "INTERSECTION" ∷
    codes "ABSENT" ∷
    codes "PRESENT" ∷
    codes "INCLUDES" ∷
    codes "MIN" ∷
    codes "MAX" ∷
    codes "CLASS" ∷
    codes "UNIQUE" ∷
    codes "WITH SYNTAX" ∷
    codes "NULL" ∷
    codes "BOOLEAN" ∷
    codes "INTEGER" ∷
    codes "REAL" ∷
    codes "ENUMERATED" ∷
    codes "CHOICE" ∷
    codes "SEQUENCE" ∷
    codes "OF" ∷
    codes "ALL" ∷
    codes "SET" ∷
    codes "OBJECT IDENTIFIER" ∷
    codes "UNIVERSAL" ∷
    codes "PRIVATE" ∷
    codes "APPLICATION" ∷
    codes "TRUE" ∷
    codes "FALSE" ∷
    codes "BEGIN" ∷
    codes "END" ∷
    codes "DEFINITIONS" ∷
    codes "AUTOMATIC" ∷
    codes "EXPLICIT" ∷
    codes "IMPLICIT" ∷
    codes "IMPORTS" ∷
    codes "FROM" ∷
    codes "INSTRUCTIONS" ∷
    codes "TAGS" ∷
    []
