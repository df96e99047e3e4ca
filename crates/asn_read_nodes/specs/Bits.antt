-- The bits of a value (X.680 22.9).
use Rattle.std.specs.Prelude.{ℕ, List, [], ◌∷◌, ◌++◌, Bool, true, false, ◌||◌, nat_eq, cond, Option, Some}
use Rattle.asn_rules_guards.specs.Lexical.{in_class}
use Rattle.asn_rules_guards.specs.declared.asked.ByteClass.TheVariants.{Digit, HexLetter}
use Rattle.asn_rules.specs.declared.names.TheConstants.{NAME_LIST, VALUE_IDENTIFIER}
use Rattle.asn_rules.specs.declared.node.Node.{Node}
use Rattle.asn_rules.specs.declared.node.Node.TheViews.{out-Node}
use Rattle.asn_rules.specs.Nodes.{at_child, at_children, child_of}
use Rattle.asn_text.specs.Bits.{bits_of_digit}
use Rattle.asn_read_nodes.specs.Parts.{all_some, behind_blanks, name_of, of_some}

-- Each 0 or 1 is a bit (X.680 12.10); blanks and the marks around the digits are none.
abbrev pub binary_bits : List ℕ → List Bool
binary_bits [] = []
binary_bits (b ∷ bs) = cond (nat_eq b 48) (false ∷ binary_bits bs) (cond (nat_eq b 49) (true ∷ binary_bits bs) (binary_bits bs))

abbrev pub is_hex_digit : ℕ → Bool
is_hex_digit b = in_class Digit b || in_class HexLetter b

-- Each hexadecimal digit is four bits, the highest first (X.680 12.12, 22.10).
abbrev pub hex_bits : List ℕ → List Bool
hex_bits [] = []
hex_bits (b ∷ bs) = cond (is_hex_digit b) (bits_of_digit b ++ hex_bits bs) (hex_bits bs)

abbrev pub binary_of : List ℕ → Node → Option (List Bool)
binary_of text n = of_some (behind_blanks text n) (λ bytes. Some (binary_bits bytes))

abbrev pub hexadecimal_of : List ℕ → Node → Option (List Bool)
hexadecimal_of text n = of_some (behind_blanks text n) (λ bytes. Some (hex_bits bytes))

-- the names in a list of names
abbrev pub names_in : List ℕ → List Node → Option (List (List ℕ))
names_in text ns = all_some (at_children ns VALUE_IDENTIFIER (name_of text))

-- the names of the bits that are set; none where the braces are empty
abbrev pub named_bits_of : List ℕ → Node → Option (List (List ℕ))
named_bits_of text n = at_child (child_of n NAME_LIST) (Some []) (λ list. names_in text (out-Node list).children)
