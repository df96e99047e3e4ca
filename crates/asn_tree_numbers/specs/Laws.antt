-- Laws of the numbers of an enumeration.
use Rattle.std.specs.Prelude.{◌≡◌, ℤ, false, List, [], ◌∷◌, ◌++◌, Option, Some, None, ⊤}
use Rattle.asn_tree_numbers.specs.Enumeration.{has, written, IsAbove, AreOfRoot, AreOfAdditions, AreNumbers, NumbersPass, SomePasses}

-- An enumeration has one list of numbers. So where some number passes 128 bits, no list within them has the numbers.
pub record NumbersAreOne : Type 0 where
  pub one : (root additions : List (Option ℤ)) (xs ys : List ℤ) → AreNumbers root additions xs → AreNumbers root additions ys → xs ≡ ys
  pub or_pass : (root additions : List (Option ℤ)) (xs : List ℤ) → NumbersPass root additions → AreNumbers root additions xs → SomePasses xs

abbrev pub AreDistinct : List ℤ → Type 0
AreDistinct [] = ⊤
AreDistinct (n ∷ ns) = (has ns n ≡ false) × AreDistinct ns

-- Each number that is written is no number of the root's, and above the numbers of all earlier items.
abbrev pub Rise : List ℤ → List ℤ → List (Option ℤ) → List ℤ → Type 0
Rise of_root earlier (Some m ∷ items) (n ∷ ns) = (has of_root n ≡ false) × IsAbove earlier n × Rise of_root (n ∷ earlier) items ns
Rise of_root earlier (None ∷ items) (n ∷ ns) = Rise of_root (n ∷ earlier) items ns
Rise of_root earlier [] ns = ⊤
Rise of_root earlier (item ∷ items) [] = ⊤

-- The numbers are distinct where those written in the root are, and each that is written in the additions is no number
-- of the root's and above those of all earlier additions (X.680 clause 20).
abbrev pub NumbersAreDistinct : Type 0
NumbersAreDistinct =
    (root additions : List (Option ℤ)) (of_root of_additions : List ℤ) → AreOfRoot root of_root → AreOfAdditions of_root additions of_additions → AreDistinct (written root) → Rise of_root [] additions of_additions → AreDistinct (of_root ++ of_additions)
