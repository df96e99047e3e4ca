-- The values that hold no other value.
use Rattle.std.specs.Prelude.{ℕ, List, Bool, Option, Some}
use Rattle.asn_rules.specs.declared.names.TheConstants.{BINARY, DOT_NOTATION, HEXADECIMAL, MBE_NOTATION, NAMED_BITS, QUADRUPLE, QUOTED, VALUE_IDENTIFIER, VALUE_PATH}
use Rattle.asn_rules.specs.declared.node.Node.{Node}
use Rattle.asn_rules.specs.Nodes.{at_child, child_of, the}
use Rattle.asn_tree.specs.declared.values.ASN1Value.{ASN1Value}
use Rattle.asn_tree.specs.declared.values.ASN1Value.TheVariants.{BitString, BitStringNamedBits, Boolean, ElsewhereDeclaredValue, Integer, ObjectIdentifier, Real, String, Time}
use Rattle.asn_read_nodes.specs.Parts.{name_of, number_of, of_some, truth_of}
use Rattle.asn_read_nodes.specs.Bits.{binary_of, hexadecimal_of, named_bits_of}
use Rattle.asn_read_nodes.specs.Identifiers.{arcs_of}
use Rattle.asn_read_nodes.specs.Paths.{parent_of}
use Rattle.asn_read_nodes.specs.Reals.{decimal_of, parts_of}
use Rattle.asn_read_nodes.specs.Strings as strings

-- TRUE or FALSE (X.680 18.3)
abbrev pub boolean_of : Node → Option ASN1Value
boolean_of n = of_some (truth_of n) (λ truth. Some (Boolean truth))

-- a whole number (X.680 19.9)
abbrev pub integer_of : List ℕ → Node → Option ASN1Value
integer_of text n = of_some (number_of text n) (λ number. Some (Integer number))

abbrev pub bits_by : (List ℕ → Node → Option (List Bool)) → List ℕ → Node → Option ASN1Value
bits_by read text n = of_some (read text n) (λ bits. Some (BitString bits))

abbrev pub names_by : List ℕ → Node → Option ASN1Value
names_by text n = of_some (named_bits_of text n) (λ names. Some (BitStringNamedBits names))

-- bits, in binary or hexadecimal notation or by the names of those that are set (X.680 22.9)
abbrev pub bit_string_of : List ℕ → Node → Option ASN1Value
bit_string_of text n =
    at_child (child_of n BINARY) (at_child (child_of n HEXADECIMAL) (the (child_of n NAMED_BITS) (names_by text)) (bits_by hexadecimal_of text)) (bits_by binary_of text)

abbrev pub text_by : (List ℕ → Node → Option (List ℕ)) → List ℕ → Node → Option ASN1Value
text_by read text n = of_some (read text n) (λ t. Some (String t))

-- a text, in quotes or as the quadruple of one character (X.680 41.8)
abbrev pub character_string_of : List ℕ → Node → Option ASN1Value
character_string_of text n = at_child (child_of n QUOTED) (the (child_of n QUADRUPLE) (text_by strings.quadruple_of text)) (text_by strings.quoted_of text)

-- a real number, with a point or by its parts (X.680 21.6)
abbrev pub real_of : List ℕ → Node → Option ASN1Value
real_of text n =
    of_some (at_child (child_of n DOT_NOTATION) (the (child_of n MBE_NOTATION) (parts_of text)) (decimal_of text)) (λ real. Some (Real real))

-- a time (X.680 38.1, 46.3, 47.3)
abbrev pub time_of : List ℕ → Node → Option ASN1Value
time_of text n = of_some (strings.time_of text n) (λ t. Some (Time t))

-- the name of a value, behind the path to it where there is one (X.680 14.1, X.681 15)
abbrev pub elsewhere_of : List ℕ → Node → Option ASN1Value
elsewhere_of text n =
    of_some (the (child_of n VALUE_PATH) (parent_of text)) (λ parent. of_some (the (child_of n VALUE_IDENTIFIER) (name_of text)) (λ name. Some (ElsewhereDeclaredValue parent name)))

-- an object identifier (X.680 32.3)
abbrev pub identifier_of : List ℕ → Node → Option ASN1Value
identifier_of text n = of_some (arcs_of text n) (λ arcs. Some (ObjectIdentifier (record { 0 = arcs })))
