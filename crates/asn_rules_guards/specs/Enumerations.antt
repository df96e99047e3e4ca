-- The items of an enumeration as its bytes tell them, and their numbers as far as 128 bits go (X.680 clause 20).
use Rattle.std.specs.Prelude.{◌≡◌, ◌↔◌, ℕ, zero, suc, ◌-◌, ◌^◌, List, [], ◌∷◌, Bool, true, false, ◌&&◌, ◌||◌, not, nat_eq, Option, Some, None, if◌then◌else◌, ℤ, pos}
use Rattle.asn_tree_numbers.specs.Enumeration.{has, written, NumbersPass, from_above, if_fits}
use Rattle.asn_rules_guards.specs.Lexical.{in_class, is_alnum}
use Rattle.asn_rules_guards.specs.Guards.{Place, within, onward, is_outside, bare, before, number}
use Rattle.asn_rules_guards.specs.declared.asked.ByteClass.TheVariants.{Letter}

-- whether the first of these bytes stands outside blanks and comments and goes on with a name (X.680 12.3)
abbrev pub goes_on : Place → ℕ → List ℕ → Bool
goes_on p b bs = is_outside p (b ∷ bs) && (is_alnum b || nat_eq b 45)

-- what follows the rest of a name
abbrev pub behind_name : List ℕ → List ℕ
behind_name [] = []
behind_name (b ∷ bs) = if goes_on (within 0) b bs then behind_name bs else b ∷ bs

-- the number in the parentheses that stand here
abbrev pub in_parentheses : List ℕ → Option ℤ
in_parentheses [] = None
in_parentheses (b ∷ bs) = if nat_eq b 40 then number (before 41 bs) else None

-- The items up to a '.', each as the number that stands behind its name. A name begins with each letter that goes on with
-- no other.
unfoldable pub items_from : Place → Bool → List ℕ → List (Option ℤ)
items_from p in_name [] = []
items_from p in_name (b ∷ bs) =
    if is_outside p (b ∷ bs) && nat_eq b 46 then [] else
    if is_outside p (b ∷ bs) && in_class Letter b && not in_name then in_parentheses (bare (behind_name bs)) ∷ items_from (onward p (b ∷ bs)) true bs else
    items_from (onward p (b ∷ bs)) (in_name && goes_on p b bs) bs

abbrev pub items : List ℕ → List (Option ℤ)
items bs = items_from (within 0) false bs

-- what follows the first of this byte outside blanks and comments
unfoldable pub past_from : Place → ℕ → List ℕ → List ℕ
past_from p mark [] = []
past_from p mark (b ∷ bs) = if is_outside p (b ∷ bs) && nat_eq b mark then bs else past_from (onward p (b ∷ bs)) mark bs

abbrev pub past : ℕ → List ℕ → List ℕ
past mark bs = past_from (within 0) mark bs

-- the items before the extension marker, and those behind it
abbrev pub root_items : List ℕ → List (Option ℤ)
root_items taken = items (past 123 taken)

abbrev pub added_items : List ℕ → List (Option ℤ)
added_items taken = items (past 46 (past 46 (past 46 taken)))

-- the first of so many numbers from n on that is not taken, else the one behind them
abbrev pub first_free : ℕ → (ℕ → Bool) → ℕ → ℕ
first_free zero taken n = n
first_free (suc k) taken n = if taken n then first_free k taken (suc n) else n

-- the least number from n on that is not taken, as far as 128 bits go
unfoldable pub least_free : (ℕ → Bool) → ℕ → ℕ
least_free taken n = first_free (2 ^ 127 - n) taken n

-- the number of an item: the one that is written, else the least that is free, if it is one of 128 bits
abbrev pub given : (ℕ → Bool) → ℕ → Option ℤ → Option ℤ
given taken n (Some m) = Some m
given taken n None = if_fits (least_free taken n)

-- where the numbers behind an item of the root are counted from: one that is written moves nothing
abbrev pub behind_item : ℕ → Option ℤ → ℤ → ℕ
behind_item n (Some m) z = n
behind_item n None z = from_above n z

abbrev pub put_before : ℤ → Option (List ℤ) → Option (List ℤ)
put_before z None = None
put_before z (Some zs) = Some (z ∷ zs)

abbrev pub at_number : {A : Type 0} → Option ℤ → A → (ℤ → A) → A
at_number None z f = z
at_number (Some m) z f = f m

-- The numbers of root items, in order; None where one would pass 128 bits. An item without a number takes the least that is
-- not taken.
abbrev pub root_numbers : (ℕ → Bool) → ℕ → List (Option ℤ) → Option (List ℤ)
root_numbers taken n [] = Some []
root_numbers taken n (item ∷ items) = at_number (given taken n item) None (λ z. put_before z (root_numbers taken (behind_item n item z) items))

-- Whether the numbers of additions are of 128 bits. One without a number takes the least that is not taken and is above those
-- of all earlier additions.
abbrev pub additions_fit : (ℕ → Bool) → ℕ → List (Option ℤ) → Bool
additions_fit taken n [] = true
additions_fit taken n (item ∷ items) = at_number (given taken n item) false (λ z. additions_fit taken (from_above n z) items)

abbrev pub is_among : List ℤ → ℕ → Bool
is_among numbers n = has numbers (pos n)

abbrev pub fit_behind : Option (List ℤ) → List (Option ℤ) → Bool
fit_behind None additions = false
fit_behind (Some of_root) additions = additions_fit (is_among of_root) 0 additions

-- whether the numbers of all items are of 128 bits
abbrev pub numbers_fit : List ℕ → Bool
numbers_fit taken = fit_behind (root_numbers (is_among (written (root_items taken))) 0 (root_items taken)) (added_items taken)

-- They are exactly where the numbers that the standard gives pass 128 bits nowhere.
abbrev pub FitIsExact : Type 0
FitIsExact = (taken : List ℕ) → (numbers_fit taken ≡ false) ↔ NumbersPass (root_items taken) (added_items taken)
