-- Sets of whole numbers, and elements joined by set operators (X.680 50.1).
use Rattle.std.specs.Prelude.{Bool, true, false, not, ◌&&◌, ◌||◌, List, [], ◌∷◌, ◌++◌, ℤ, pos, ◌+ℤ◌, ◌-ℤ◌, int_le, int_lt, Option, Some, None, if◌then◌else◌}
use Rattle.std.specs.List.{list_any}
use Rattle.asn_tree_kinds.specs.declared.constraints.SetOperator.{SetOperator}
use Rattle.asn_tree_kinds.specs.declared.constraints.SetOperator.TheVariants.{Intersection, Union, Except}
use Rattle.asn_tree.specs.declared.constraints.SubtypeElement.{SubtypeElement}
use Rattle.asn_meaning.specs.Answers.{Answer, Yes, No, both, either, denied, once}
use Rattle.asn_meaning.specs.ValueTrees.{same_number}

-- ---- elements joined by set operators

-- an element, and those behind it, each behind its operator
pub record Chain : Type 0 where
  pub first : SubtypeElement
  pub others : List (SetOperator × SubtypeElement)

-- how sets are joined: the members of both, of either, of the first without the second; the empty set, and everything
pub record Joining (A : Type 0) : Type 0 where
  pub common : A → A → A
  pub joined : A → A → A
  pub without : A → A → A
  pub empty : A
  pub everything : A

-- `united` has what stands before the last UNION, `met` what is intersected since, `last` the last element with its
-- exclusions.
abbrev pub ranked_from : {A : Type 0} → Joining A → (SubtypeElement → A) → A → A → A → List (SetOperator × SubtypeElement) → A
ranked_from j f united met last [] = j.joined united (j.common met last)
ranked_from j f united met last ((Except, e) ∷ others) = ranked_from j f united met (j.without last (f e)) others
ranked_from j f united met last ((Intersection, e) ∷ others) = ranked_from j f united (j.common met last) (f e) others
ranked_from j f united met last ((Union, e) ∷ others) = ranked_from j f (j.joined united (j.common met last)) j.everything (f e) others

-- EXCEPT binds tighter than INTERSECTION, and that tighter than UNION, each from the left (X.680 50.1).
abbrev pub ranked : {A : Type 0} → Joining A → (SubtypeElement → A) → Chain → A
ranked j f c = ranked_from j f j.empty j.everything (f c.first) c.others

-- answers: whether a tree is in the set
abbrev pub answers : Joining Answer
answers = record { common = both; joined = either; without = λ a b. both a (denied b); empty = No; everything = Yes }

-- ---- sets of whole numbers

-- A set of whole numbers by its test, and numbers at which alone the test may turn: between two of them that follow
-- each other, and beyond the last ones, it is the same.
pub record Numbers : Type 0 where
  pub has : ℤ → Bool
  pub turns : List ℤ

abbrev pub every_number : Numbers
every_number = record { has = λ i. true; turns = [] }

abbrev pub no_number : Numbers
no_number = record { has = λ i. false; turns = [] }

abbrev pub one_number : ℤ → Numbers
one_number k = record { has = λ i. same_number i k; turns = k ∷ [] }

-- the numbers from k on, without k where it is left out
abbrev pub numbers_from : Bool → ℤ → Numbers
numbers_from left_out k = record { has = λ i. if left_out then int_lt k i else int_le k i; turns = k ∷ [] }

-- the numbers up to k, without k where it is left out
abbrev pub numbers_to : Bool → ℤ → Numbers
numbers_to left_out k = record { has = λ i. if left_out then int_lt i k else int_le i k; turns = k ∷ [] }

abbrev pub in_both : Numbers → Numbers → Numbers
in_both a b = record { has = λ i. a.has i && b.has i; turns = a.turns ++ b.turns }

abbrev pub in_either : Numbers → Numbers → Numbers
in_either a b = record { has = λ i. a.has i || b.has i; turns = a.turns ++ b.turns }

abbrev pub in_first : Numbers → Numbers → Numbers
in_first a b = record { has = λ i. a.has i && not (b.has i); turns = a.turns ++ b.turns }

abbrev pub before : ℤ → ℤ
before i = i -ℤ pos 1

abbrev pub behind : ℤ → ℤ
behind i = i +ℤ pos 1

-- each number with its neighbours
abbrev pub around : List ℤ → List ℤ
around [] = []
around (k ∷ ks) = before k ∷ k ∷ behind k ∷ around ks

-- Whether the set has a number below i: if it has any, it has i's neighbour or one around a turn.
abbrev pub has_below : Numbers → ℤ → Bool
has_below s i = list_any (λ k. int_lt k i && s.has k) (before i ∷ around s.turns)

abbrev pub has_above : Numbers → ℤ → Bool
has_above s i = list_any (λ k. int_lt i k && s.has k) (behind i ∷ around s.turns)

-- the numbers below which, or above which, the set has another
abbrev pub above_least : Numbers → Numbers
above_least s = record { has = has_below s; turns = around s.turns }

abbrev pub below_greatest : Numbers → Numbers
below_greatest s = record { has = has_above s; turns = around s.turns }

-- two sets, once both are known
abbrev pub lifted : (Numbers → Numbers → Numbers) → Option Numbers → Option Numbers → Option Numbers
lifted f a b = once None a (λ x. once None b (λ y. Some (f x y)))

-- sets of whole numbers: known once all parts are
abbrev pub number_sets : Joining (Option Numbers)
number_sets = record { common = lifted in_both; joined = lifted in_either; without = lifted in_first; empty = Some no_number; everything = Some every_number }
