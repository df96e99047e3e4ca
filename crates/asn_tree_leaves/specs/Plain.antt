-- The words of types that hold no other tree.
use Rattle.std.specs.Prelude.{ℕ, List, ◌++◌, codes, if◌then◌else◌}
use Rattle.std.specs.Str.{bytes_eq}
use Rattle.asn_tree_leaves.specs.declared.plain.CharacterStringType.{CharacterStringType}
use Rattle.asn_tree_leaves.specs.declared.plain.CharacterStringType.TheVariants.{NumericString, VisibleString, IA5String, TeletexString, VideotexString, GraphicString, GeneralString, UniversalString, UTF8String, BMPString, PrintableString}

-- the character string type that a word names (X.680 41.1); any other word counts as UTF8String
abbrev pub string_type : List ℕ → CharacterStringType
string_type word =
    if bytes_eq word (codes "NumericString") then NumericString
    else if bytes_eq word (codes "VisibleString") then VisibleString
    else if bytes_eq word (codes "IA5String") then IA5String
    else if bytes_eq word (codes "TeletexString") then TeletexString
    else if bytes_eq word (codes "VideotexString") then VideotexString
    else if bytes_eq word (codes "GraphicString") then GraphicString
    else if bytes_eq word (codes "GeneralString") then GeneralString
    else if bytes_eq word (codes "UniversalString") then UniversalString
    else if bytes_eq word (codes "BMPString") then BMPString
    else if bytes_eq word (codes "PrintableString") then PrintableString
    else UTF8String

-- the characters of NumericString: the space and the digits (X.680 41.2)
abbrev pub numeric_characters : List ℕ
numeric_characters = codes " 0123456789"

-- the characters of PrintableString: letters, digits, the space and eleven marks (X.680 41.4)
abbrev pub printable_characters : List ℕ
printable_characters = codes "ABCDEFGHIJKLMNOPQRSTUVWXYZ" ++ codes "abcdefghijklmnopqrstuvwxyz" ++ codes "0123456789" ++ codes " '()+,-./:=?"
