-- Names of bits, and their numbers.
use Rattle.std.specs.Prelude.{ℕ, Bool, List, map, Option, Some, None}
use Rattle.std.specs.Borrow.{Bor}
use Rattle.asn_tree_kinds.specs.declared.types.DistinguishedValue.{DistinguishedValue}
use Rattle.asn_meaning.specs.Answers.{once}
use Rattle.asn_meaning.specs.Braces.{elements_written}
use Rattle.asn_meaning.specs.Members.{number_named}
use Rattle.asn_meaning.specs.Rows.{bit_number, named_bits, names_written, reference_names}
use Rattle.asn_meaning.specs.Written.{Written, BitsWritten}

-- the texts that are lent
abbrev pub shown_texts : List (Bor (List ℕ)) → List (List ℕ)
shown_texts names = map (λ name. name.now) names

-- the names of the elements that are written
abbrev pub names_of_elements : Written → Option (List (List ℕ))
names_of_elements w = once None (elements_written w) reference_names

-- the number of the bit of the name, where it is one in bounds
abbrev pub number_of_name : List DistinguishedValue → List ℕ → Option ℕ
number_of_name bits name = once None (number_named bits name) bit_number

-- the bits of the names that are written
abbrev pub bits_of_names : List DistinguishedValue → Written → Option (List Bool)
bits_of_names bits w = once None (names_written w) (named_bits bits)

-- the bits that are written, one by one or by names
abbrev pub bits_written : List DistinguishedValue → Written → Option (List Bool)
bits_written named (BitsWritten bits) = Some bits
bits_written named w = bits_of_names named w
