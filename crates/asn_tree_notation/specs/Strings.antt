-- The characters of the character string types (X.680 clause 41), and their numbers.
use Rattle.std.specs.Prelude.{ℕ, zero, suc, ◌+◌, ◌-◌, nat_lt, Bool, ◌&&◌, ◌||◌, List, [], ◌∷◌, ◌++◌, Option, codes, if◌then◌else◌}
use Rattle.asn_tree_leaves.specs.declared.plain.CharacterStringType.{CharacterStringType}
use Rattle.asn_tree_leaves.specs.declared.plain.CharacterStringType.TheVariants.{NumericString, VisibleString, IA5String, TeletexString, VideotexString, GraphicString, GeneralString, UniversalString, UTF8String, BMPString, PrintableString}
use Rattle.asn_tree_settings.specs.Settings.{among}

-- whether a code is a character's: one of Unicode that is no surrogate
abbrev pub is_character : ℕ → Bool
is_character code = nat_lt code 0xD800 || (nat_lt 0xDFFF code && nat_lt code 0x11_0000)

-- the code, if it is a character's
abbrev pub alone : ℕ → List ℕ
alone code = if is_character code then code ∷ [] else []

-- the characters among so many codes from `first` on
unfoldable pub codes_from : ℕ → ℕ → List ℕ
codes_from zero first = []
codes_from (suc n) first = alone first ++ codes_from n (first + 1)

-- the characters from `first` on that are below `end`
abbrev pub span : ℕ → ℕ → List ℕ
span first end = codes_from (end - first) first

-- the characters of a type in the order of their numbers
abbrev pub characters : CharacterStringType → List ℕ
characters NumericString = codes " 0123456789"
characters PrintableString = codes "ABCDEFGHIJKLMNOPQRSTUVWXYZabcdefghijklmnopqrstuvwxyz0123456789 '()+,-./:=?"
characters VisibleString = span 32 127
characters IA5String = span 0 128
characters _ = span 0 65535

-- each item with its number, where the first has this one
abbrev pub numbered : ℕ → List ℕ → List (ℕ × ℕ)
numbered n [] = []
numbered n (c ∷ cs) = (n, c) ∷ numbered (n + 1) cs

-- the word of a type (X.680 41.1)
abbrev pub string_word : CharacterStringType → List ℕ
string_word NumericString = codes "NumericString"
string_word VisibleString = codes "VisibleString"
string_word IA5String = codes "IA5String"
string_word TeletexString = codes "TeletexString"
string_word VideotexString = codes "VideotexString"
string_word GraphicString = codes "GraphicString"
string_word GeneralString = codes "GeneralString"
string_word UniversalString = codes "UniversalString"
string_word UTF8String = codes "UTF8String"
string_word BMPString = codes "BMPString"
string_word PrintableString = codes "PrintableString"

abbrev pub string_types : List CharacterStringType
string_types =
    NumericString ∷ VisibleString ∷ IA5String ∷ TeletexString ∷ VideotexString ∷ GraphicString ∷ GeneralString ∷ UniversalString ∷ UTF8String ∷ BMPString ∷ PrintableString ∷ []

-- the type of this word
unfoldable pub string_named : List ℕ → Option CharacterStringType
string_named word = among string_word string_types word
