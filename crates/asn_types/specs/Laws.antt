-- What the numbers of an enumeration's items are (X.680 20).
use Rattle.std.specs.Prelude.{◌≡◌, ℤ, List, Option, Some}
use Rattle.asn_tree_numbers.specs.Enumeration.{AreNumbers, NumbersPass}
use Rattle.asn_types.specs.Enumerations.{numbers_of}

-- Where the numbers that the standard gives pass 128 bits nowhere, they are those that are computed.
abbrev pub NumbersAreTheStandards : Type 0
NumbersAreTheStandards = (root additions : List (Option ℤ)) (numbers : List ℤ) → AreNumbers root additions numbers → (NumbersPass root additions → ⊥) → numbers_of root additions ≡ Some numbers
