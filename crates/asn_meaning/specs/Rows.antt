-- The trees of values that hold no other value, by the kind of their head.
use Rattle.std.specs.Prelude.{ℕ, suc, ◌+◌, ◌*◌, max, nat_eq, nat_le, Bool, true, false, List, [], ◌∷◌, map, ℤ, pos, negsuc, Option, Some, None, if◌then◌else◌}
use Rattle.std.specs.List.{fold, list_any, range_with_len}
use Rattle.std.specs.Str.{chars}
use Rattle.asn_tree_headers.specs.declared.headers.ObjectIdentifierArc.{ObjectIdentifierArc}
use Rattle.asn_tree_kinds.specs.declared.types.DistinguishedValue.{DistinguishedValue}
use Rattle.asn_tree.specs.declared.values.ASN1Value.{ASN1Value}
use Rattle.asn_tree_notation.specs.Strings.{is_character}
use Rattle.asn_meaning.specs.Answers.{once}
use Rattle.asn_meaning.specs.Braces.{all_unnamed, elements_written}
use Rattle.asn_meaning.specs.Kinds.{Kind, NullKind, BooleanKind, IntegerKind, RealKind, BitStringKind, OctetStringKind, CharacterStringKind, TimeKind, EnumeratedKind, ObjectIdentifierKind, OpaqueKind, StructKind, ListKind, ChoiceKind, FieldKind, ReferenceKind, SelectionKind}
use Rattle.asn_meaning.specs.Members.{named, number_named}
use Rattle.asn_meaning.specs.Written.{Written, NullWritten, TruthWritten, NumberWritten, RealWritten, TextWritten, BitsWritten, BitNamesWritten, OctetsWritten, ArcsWritten, NameWritten, BracesWritten, as_written}
use Rattle.asn_meaning.specs.ValueTrees.{Arc, NumberArc, NameArc, ValueTree, NullValue, TruthValue, WholeNumber, RealNumber, Bits, Octets, Characters, ObjectIdentifierArcs, Opaque}

-- ---- bits and octets (X.680 22.9, 23.3)

abbrev pub reference_name : Written → Option (List ℕ)
reference_name (NameWritten None name) = Some name
reference_name _ = None

abbrev pub reference_names : List ASN1Value → Option (List (List ℕ))
reference_names [] = Some []
reference_names (v ∷ vs) = once None (reference_name (as_written v)) (λ name. once None (reference_names vs) (λ names. Some (name ∷ names)))

-- the names in braces, also one that was read as an arc
abbrev pub names_written : Written → Option (List (List ℕ))
names_written (BitNamesWritten names) = Some names
names_written w = once None (elements_written w) reference_names

-- the greatest number of a bit
unfoldable pub greatest_bit : ℕ
greatest_bit = 1048575

abbrev pub bit_number : ℤ → Option ℕ
bit_number (pos n) = if nat_le n greatest_bit then Some n else None
bit_number (negsuc n) = None

-- the numbers of all named bits, each in bounds
abbrev pub bit_numbers : List DistinguishedValue → Option (List ℕ)
bit_numbers [] = Some []
bit_numbers (d ∷ ds) = once None (bit_number d.value) (λ n. once None (bit_numbers ds) (λ ns. Some (n ∷ ns)))

-- the numbers of the bits that are named, each of them known
abbrev pub numbers_of_names : List DistinguishedValue → List (List ℕ) → Option (List ℕ)
numbers_of_names ds [] = Some []
numbers_of_names ds (name ∷ names) =
    once None (number_named ds name) (λ i. once None (bit_number i) (λ n. once None (numbers_of_names ds names) (λ ns. Some (n ∷ ns))))

-- bits 0 to the highest named number, true where named
abbrev pub set_bits : List ℕ → List ℕ → List Bool
set_bits numbers names = map (λ i. list_any (nat_eq i) names) (range_with_len 0 (suc (fold max 0 numbers)))

abbrev pub named_bits : List DistinguishedValue → List (List ℕ) → Option (List Bool)
named_bits [] [] = Some []
named_bits [] (name ∷ names) = None
named_bits (d ∷ ds) names = once None (bit_numbers (d ∷ ds)) (λ numbers. once None (numbers_of_names (d ∷ ds) names) (λ ns. Some (set_bits numbers ns)))

abbrev pub bit : Bool → ℕ
bit true = 1
bit false = 0

-- the greatest bit first
abbrev pub octet : List Bool → ℕ
octet bits = fold (λ n b. 2 * n + bit b) 0 bits

-- of a multiple of 8 bits
abbrev pub octets_of : List Bool → Option (List ℕ)
octets_of [] = Some []
octets_of (a ∷ b ∷ c ∷ d ∷ e ∷ f ∷ g ∷ h ∷ bits) = once None (octets_of bits) (λ others. Some (octet (a ∷ b ∷ c ∷ d ∷ e ∷ f ∷ g ∷ h ∷ []) ∷ others))
octets_of _ = None

-- ---- texts

abbrev pub number_written : Written → Option ℤ
number_written (NumberWritten i) = Some i
number_written _ = None

abbrev pub octet_written : ASN1Value → Option ℕ
octet_written v = once None (number_written (as_written v)) (elim [ pos n ↦ if nat_le n 255 then Some n else None | negsuc n ↦ None ])

abbrev pub character : ℕ → Option (List ℕ)
character code = if is_character code then Some (code ∷ []) else None

-- four numbers of an octet each, the first 0, that make a character (X.680 41.8)
abbrev pub quadruple : List ASN1Value → Option (List ℕ)
quadruple (z ∷ p ∷ r ∷ c ∷ []) =
    once None (octet_written z) (λ group. once None (octet_written p) (λ plane. once None (octet_written r) (λ row. once None (octet_written c) (λ cell.
    if nat_eq group 0 then character (65536 * plane + 256 * row + cell) else None))))
quadruple _ = None

abbrev pub text_written : Written → Option (List ℕ)
text_written (TextWritten s) = Some (chars s)
text_written _ = None

abbrev pub string_written : Written → Option (List ℕ)
string_written (BracesWritten items) = once None (all_unnamed items) quadruple
string_written w = text_written w

-- ---- rows of heads whose trees have no parts

abbrev pub null_row : Written → Option ValueTree
null_row NullWritten = Some NullValue
null_row _ = None

abbrev pub truth_row : Written → Option ValueTree
truth_row (TruthWritten b) = Some (TruthValue b)
truth_row _ = None

abbrev pub number_row : Written → Option ValueTree
number_row w = once None (number_written w) (λ i. Some (WholeNumber i))

-- a whole number is a real too (X.680 21.6)
abbrev pub real_row : Written → Option ValueTree
real_row (RealWritten x) = Some (RealNumber x.mantissa x.base x.exponent)
real_row w = once None (number_written w) (λ i. Some (RealNumber i 10 (pos 0)))

abbrev pub bits_row : List DistinguishedValue → Written → Option ValueTree
bits_row ds (BitsWritten bits) = Some (Bits bits)
bits_row ds w = once None (names_written w) (λ names. once None (named_bits ds names) (λ bits. Some (Bits bits)))

abbrev pub octets_row : Written → Option ValueTree
octets_row (BitsWritten bits) = once None (octets_of bits) (λ octets. Some (Octets octets))
octets_row (OctetsWritten octets) = Some (Octets octets)
octets_row _ = None

abbrev pub string_row : Written → Option ValueTree
string_row w = once None (string_written w) (λ s. Some (Characters s))

abbrev pub text_row : Written → Option ValueTree
text_row w = once None (text_written w) (λ s. Some (Characters s))

-- the number of an arc where it is given, else its name (X.680 32.3)
abbrev pub arc_tree : ObjectIdentifierArc → Arc
arc_tree a = elim a.number [ Some n ↦ NumberArc n | None ↦ elim a.name [ Some name ↦ NameArc name | None ↦ NameArc [] ] ]

abbrev pub arcs_row : Written → Option ValueTree
arcs_row (ArcsWritten arcs) = Some (ObjectIdentifierArcs (map arc_tree arcs))
arcs_row _ = None

-- The tree of a value that is no name, by the kind of its head. None where the trees of the kind have parts, and for a
-- name, which is no head. An item has no row: it is told by its name.
abbrev pub row : Kind → Option (Written → Option ValueTree)
row NullKind = Some null_row
row BooleanKind = Some truth_row
row (IntegerKind numbers) = Some number_row
row RealKind = Some real_row
row (BitStringKind bits) = Some (bits_row (named bits))
row OctetStringKind = Some octets_row
row (CharacterStringKind ty) = Some string_row
row TimeKind = Some text_row
row (EnumeratedKind items) = Some (λ w. None)
row ObjectIdentifierKind = Some arcs_row
row OpaqueKind = Some (λ w. Some Opaque)
row (StructKind x) = None
row (ListKind ty) = None
row (ChoiceKind options) = None
row (FieldKind x) = Some (λ w. Some Opaque)
row (ReferenceKind x) = None
row (SelectionKind x) = None
