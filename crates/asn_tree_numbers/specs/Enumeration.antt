-- The numbers of an enumeration's items (X.680 clause 20). An item is the number written after its name, if any.
use Rattle.std.specs.Prelude.{◌≡◌, ℕ, ◌+◌, ◌^◌, nat_lt, max, ◌⊎◌, ℤ, pos, negsuc, ◌≤ℤ◌, ◌<ℤ◌, Bool, false, if◌then◌else◌, List, [], ◌∷◌, ◌++◌, Option, Some, None, ⊤}
use Rattle.std.specs.List.{list_any}
use Rattle.std.specs.Ordering.{int_eq}
use Rattle.asn_tree_numbers.specs.declared.enumeration.Part.{Part}
use Rattle.asn_tree_numbers.specs.declared.enumeration.Part.TheVariants.{Root, Additions}

-- whether n is among the numbers
abbrev pub has : List ℤ → ℤ → Bool
has numbers n = list_any (λ x. int_eq x n) numbers

-- the numbers that are written
abbrev pub written : List (Option ℤ) → List ℤ
written [] = []
written (Some n ∷ items) = n ∷ written items
written (None ∷ items) = written items

-- each of the numbers is below n
abbrev pub IsAbove : List ℤ → ℤ → Type 0
IsAbove [] n = ⊤
IsAbove (x ∷ xs) n = (x <ℤ n) × IsAbove xs n

-- n is not negative, not taken, and above each earlier number
pub record IsFree (taken earlier : List ℤ) (n : ℤ) : Type 0 where
  pub not_negative : pos 0 ≤ℤ n
  pub is_new : has taken n ≡ false
  pub is_above : IsAbove earlier n

-- the least such number
pub record IsNext (taken earlier : List ℤ) (n : ℤ) : Type 0 where
  pub is_free : IsFree taken earlier n
  pub is_least : (k : ℤ) → IsFree taken earlier k → n ≤ℤ k

-- An item has the number that is written. Without one it has the least number that is free.
abbrev pub IsNumberOf : List ℤ → List ℤ → Option ℤ → ℤ → Type 0
IsNumberOf taken earlier (Some m) n = n ≡ m
IsNumberOf taken earlier None n = IsNext taken earlier n

-- The numbers that those of later items stand above. One that is written counts among them in the additions alone.
abbrev pub behind : Part → List ℤ → Option ℤ → ℤ → List ℤ
behind Root earlier (Some m) n = earlier
behind Root earlier None n = n ∷ earlier
behind Additions earlier item n = n ∷ earlier

-- each item's number, in order
abbrev pub Numbered : Part → List ℤ → List ℤ → List (Option ℤ) → List ℤ → Type 0
Numbered part taken earlier [] [] = ⊤
Numbered part taken earlier [] (n ∷ ns) = ⊥
Numbered part taken earlier (item ∷ items) [] = ⊥
Numbered part taken earlier (item ∷ items) (n ∷ ns) = IsNumberOf taken earlier item n × Numbered part taken (behind part earlier item n) items ns

-- The root's items without a number have, in order, the least numbers from 0 on that no item of the root has in
-- writing.
abbrev pub AreOfRoot : List (Option ℤ) → List ℤ → Type 0
AreOfRoot root ns = Numbered Root (written root) [] root ns

-- An addition without a number has the least number from 0 on that no item of the root has, and that is above the
-- number of each earlier addition.
abbrev pub AreOfAdditions : List ℤ → List (Option ℤ) → List ℤ → Type 0
AreOfAdditions of_root additions ns = Numbered Additions of_root [] additions ns

-- the numbers of all items, first of the root's
pub record AreNumbers (root additions : List (Option ℤ)) (numbers : List ℤ) : Type 0 where
  pub of_root : List ℤ
  pub of_additions : List ℤ
  pub root_has : AreOfRoot root of_root
  pub additions_have : AreOfAdditions of_root additions of_additions
  pub together : numbers ≡ of_root ++ of_additions

-- one of the numbers is above those of 128 bits
abbrev pub SomePasses : List ℤ → Type 0
SomePasses [] = ⊥
SomePasses (n ∷ ns) = (pos (2 ^ 127) ≤ℤ n) ⊎ SomePasses ns

-- an item's number would pass 128 bits
pub record NumbersPass (root additions : List (Option ℤ)) : Type 0 where
  pub numbers : List ℤ
  pub are_numbers : AreNumbers root additions numbers
  pub pass : SomePasses numbers

-- the number, if it is one of 128 bits
abbrev pub if_fits : ℕ → Option ℤ
if_fits n = if nat_lt n (2 ^ 127) then Some (pos n) else None

-- the least number that is neither negative nor below `from`, and above n
abbrev pub from_above : ℕ → ℤ → ℕ
from_above from (pos n) = max from (n + 1)
from_above from (negsuc n) = from
