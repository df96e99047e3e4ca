-- How the numbers of an enumeration are counted.
use Rattle.std.specs.Prelude.{◌≡◌, ℕ, ◌≤◌, ◌<◌, ℤ, pos, true, false, List, [], Option, Some, None}
use Rattle.asn_tree_numbers.specs.declared.enumeration.Part.{Part}
use Rattle.asn_tree_numbers.specs.declared.enumeration.Part.TheVariants.{Root, Additions}
use Rattle.asn_tree_numbers.specs.Enumeration.{has, if_fits, from_above, Numbered, SomePasses}

-- the least number from `from` on that is not taken
pub record IsLeastFrom (taken : List ℤ) (from n : ℕ) : Type 0 where
  pub is_from : from ≤ n
  pub is_new : has taken (pos n) ≡ false
  pub is_least : (k : ℕ) → from ≤ k → k < n → has taken (pos k) ≡ true

-- what an item is given: the number that is written, else the least that is not taken, if it is one of 128 bits
abbrev pub IsGiven : List ℤ → ℕ → Option ℤ → Option ℤ → Type 0
IsGiven taken from (Some m) answer = answer ≡ Some m
IsGiven taken from None answer = (n : ℕ) × IsLeastFrom taken from n × (answer ≡ if_fits n)

-- where the next item's number is counted from
abbrev pub from_behind : Part → ℕ → Option ℤ → ℤ → ℕ
from_behind Root from (Some m) n = from
from_behind Root from None n = from_above from n
from_behind Additions from item n = from_above from n

-- where an item's number would pass 128 bits
pub record Passes (part : Part) (taken : List ℤ) (items : List (Option ℤ)) : Type 0 where
  pub numbers : List ℤ
  pub are_numbers : Numbered part taken [] items numbers
  pub pass : SomePasses numbers
