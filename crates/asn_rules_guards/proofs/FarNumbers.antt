-- Where no addition has a number in writing that is close to 2^127, all numbers are of 128 bits: a number is passed over only where an
-- item has it, and there are fewer than 2^64 items.
use Rattle.std.proofs.Common.{◌≡◌, ℕ, zero, suc, ◌+◌, ◌-◌, ◌^◌, ◌<◌, ◌≤◌, max, ◌⊎◌, inl, inr, List, [], ◌∷◌, Bool, true, false, Option, Some, None, ℤ, pos, negsuc, refl, sym, ap, ◌∙◌, arith, length, map}
use Rattle.std.specs.Prelude.{nat_eq, nat_lt, ◌&&◌, ◌||◌, not, if◌then◌else◌}
use Rattle.std.specs.List.{list_all, list_any}
use Rattle.std.specs.Ordering.{int_eq}
use Rattle.std.proofs.lemmas.Bool.{cases_lt}
use Rattle.std.proofs.lemmas.Bool.Decides.{Decides-eqb, Decides-int_eq, Decides-ltb}
use Rattle.std.proofs.lemmas.Int.{ints}
use Rattle.std.proofs.lemmas.Map.Steps.{le-length_from_below}
use Rattle.asn_tree_numbers.specs.Enumeration.{written, from_above, if_fits}
use Rattle.asn_rules_guards.specs.Lexical.{in_class}
use Rattle.asn_rules_guards.specs.declared.asked.ByteClass.TheVariants.{Letter}
use Rattle.asn_rules_guards.specs.Guards.{Place, within, onward, is_outside, bare}
use Rattle.asn_rules_guards.specs.Enumerations.{added_items, additions_fit, at_number, behind_name, fit_behind, goes_on, in_parentheses, is_among, items_from, least_free, numbers_fit, past_from, put_before, root_items, root_numbers}
use Rattle.asn_rules_guards.specs.inner.Sizes.{is_far}
use Rattle.asn_rules_guards.proofs.Numbered.{least}
use Rattle.asn_rules_guards.proofs.Booleans.{and_both, or_either}

abbrev held : List ℕ → ℕ → Bool
held hs q = list_any (nat_eq q) hs

or_first : (a b : Bool) → a ≡ true → (a || b) ≡ true
or_first true b e = refl
or_first false b e = absurd cc

or_second : (a b : Bool) → b ≡ true → (a || b) ≡ true
or_second true b e = refl
or_second false b e = e

-- the numbers that are not negative
abbrev naturals : List ℤ → List ℕ
naturals [] = []
naturals (pos n ∷ zs) = n ∷ naturals zs
naturals (negsuc n ∷ zs) = naturals zs

natural_held : (zs : List ℤ) (q : ℕ) → is_among zs q ≡ true → held (naturals zs) q ≡ true
natural_held [] q e = absurd cc
natural_held (pos n ∷ zs) q e = go (or_either (int_eq (pos n) (pos q)) (is_among zs q) e) (natural_held zs q)
  where
    go : (int_eq (pos n) (pos q) ≡ true) ⊎ (is_among zs q ≡ true) → (is_among zs q ≡ true → held (naturals zs) q ≡ true) → (nat_eq q n || held (naturals zs) q) ≡ true
    go (inl s) f =
        let i = (Decides-int_eq (pos n) (pos q)).0 s in
        let same : q ≡ n = omega (arith, ints, i) in
        or_first (nat_eq q n) (held (naturals zs) q) ((Decides-eqb q n).1 same)
    go (inr r) f = or_second (nat_eq q n) (held (naturals zs) q) (f r)
natural_held (negsuc n ∷ zs) q e = go (or_either (int_eq (negsuc n) (pos q)) (is_among zs q) e) (natural_held zs q)
  where
    go : (int_eq (negsuc n) (pos q) ≡ true) ⊎ (is_among zs q ≡ true) → (is_among zs q ≡ true → held (naturals zs) q ≡ true) → held (naturals zs) q ≡ true
    go (inl s) f = absurd (let i = (Decides-int_eq (negsuc n) (pos q)).0 s in cc)
    go (inr r) f = f r

naturals_few : (zs : List ℤ) → length (naturals zs) ≤ length zs
naturals_few [] = omega arith
naturals_few (pos n ∷ zs) = let h = naturals_few zs in omega (arith, h)
naturals_few (negsuc n ∷ zs) = let h = naturals_few zs in omega (arith, h)

written_few : (items : List (Option ℤ)) → length (written items) ≤ length items
written_few [] = omega arith
written_few (Some m ∷ items) = let h = written_few items in omega (arith, h)
written_few (None ∷ items) = let h = written_few items in omega (arith, h)

one_more : (hs : List ℕ) (l q : ℕ) → (q < l → held hs q ≡ true) → q < l + 1 → held (l ∷ hs) q ≡ true
one_more hs l q f lt = go (nat_eq q l) (Decides-eqb q l).1 f (cases_lt q l)
  where
    go : (t : Bool) → (q ≡ l → t ≡ true) → (q < l → held hs q ≡ true) → (q < l) ⊎ (l ≤ q) → (t || held hs q) ≡ true
    go true d f c = refl
    go false d f (inl a) = f a
    go false d f (inr b) = absurd (let same : q ≡ l = omega (arith, lt, b) in let no = d same in cc)

of_bits : (l : ℕ) → l < 2 ^ 127 → if_fits l ≡ Some (pos l)
of_bits l lt = ap (λ b. if b then Some (pos l) else None) ((Decides-ltb l (2 ^ 127)).1 lt)

-- each number below l is held
below_least : (taken : ℕ → Bool) (n l : ℕ) (hs : List ℕ) → ((q : ℕ) → taken q ≡ true → held hs q ≡ true) → ((j : ℕ) → n ≤ j → j < l → taken j ≡ true) → (q : ℕ) → (q < n → held hs q ≡ true) → q < l → held hs q ≡ true
below_least taken n l hs w before q below lt = go (cases_lt q n)
  where
    go : (q < n) ⊎ (n ≤ q) → held hs q ≡ true
    go (inl a) = below a
    go (inr b) = w q (before q b lt)

-- The root's items have numbers, as many as there are items.
root_has : (ws : List ℤ) (items : List (Option ℤ)) (n : ℕ) (hs : List ℕ) → ((q : ℕ) → is_among ws q ≡ true → held hs q ≡ true) → ((q : ℕ) → q < n → held hs q ≡ true) → length hs + length items < 2 ^ 127 → (ns : List ℤ) × (root_numbers (is_among ws) n items ≡ Some ns) × (length ns ≡ length items)
root_has ws [] n hs w below lt = ([], refl, refl)
root_has ws (Some m ∷ items) n hs w below lt =
    let r = root_has ws items n hs w below (omega (arith, lt)) in
    (m ∷ r.0, ap (put_before m) r.1, ap suc r.2)
root_has ws (None ∷ items) n hs w below lt =
    let l = least_free (is_among ws) n in
    let s = least (is_among ws) n in
    let all : ((q : ℕ) → q < l → held hs q ≡ true) = λ q. below_least (is_among ws) n l hs w s.before q (below q) in
    let few : l ≤ length hs = le-length_from_below hs l all in
    let from : n ≤ l = s.from in
    let r = root_has ws items (from_above n (pos l)) (l ∷ hs) (λ q e. or_second (nat_eq q l) (held hs q) (w q e)) (λ q h. one_more hs l q (all q) (omega (arith, from, h))) (omega (arith, lt)) in
    (pos l ∷ r.0, ap (λ o. at_number o None (λ z. put_before z (root_numbers (is_among ws) (from_above n z) items))) (of_bits l (omega (arith, few, lt))) ∙ ap (put_before (pos l)) r.1, ap suc r.2)

shifted : (hs : List ℕ) (base q : ℕ) → held hs (q + base) ≡ true → held (map (λ x. x - base) hs) q ≡ true
shifted [] base q e = absurd cc
shifted (x ∷ hs) base q e = go (or_either (nat_eq (q + base) x) (held hs (q + base)) e) (shifted hs base q)
  where
    go : (nat_eq (q + base) x ≡ true) ⊎ (held hs (q + base) ≡ true) → (held hs (q + base) ≡ true → held (map (λ x. x - base) hs) q ≡ true) → (nat_eq q (x - base) || held (map (λ x. x - base) hs) q) ≡ true
    go (inl s) f =
        let i = (Decides-eqb (q + base) x).0 s in
        let same : q ≡ x - base = omega (arith, i) in
        or_first (nat_eq q (x - base)) (held (map (λ x. x - base) hs) q) ((Decides-eqb q (x - base)).1 same)
    go (inr r) f = or_second (nat_eq q (x - base)) (held (map (λ x. x - base) hs) q) (f r)

as_many : (hs : List ℕ) (base : ℕ) → length (map (λ x. x - base) hs) ≡ length hs
as_many [] base = refl
as_many (x ∷ hs) base = ap suc (as_many hs base)

-- a list that holds each number from the base on and below l is so long
past_base : (hs : List ℕ) (base l : ℕ) → ((q : ℕ) → base ≤ q → q < l → held hs q ≡ true) → l ≤ base + length hs
past_base hs base l f =
    let h = le-length_from_below (map (λ x. x - base) hs) (l - base) (λ q lt. shifted hs base q (f (q + base) (omega arith) (omega (arith, lt)))) in
    let same = as_many hs base in
    omega (arith, h, same)

added_fit : (taken : ℕ → Bool) (items : List (Option ℤ)) (n : ℕ) (hs : List ℕ) → ((q : ℕ) → taken q ≡ true → held hs q ≡ true) → ((q : ℕ) → 2 ^ 126 ≤ q → q < n → held hs q ≡ true) → list_all is_far items ≡ true → 2 ^ 126 + (length hs + length items) < 2 ^ 127 → additions_fit taken n items ≡ true
added_fit taken [] n hs w below far lt = refl
added_fit taken (Some (pos p) ∷ items) n hs w below far lt =
    let both = and_both (nat_lt p (2 ^ 126)) (list_all is_far items) far in
    let small = (Decides-ltb p (2 ^ 126)).0 both.0 in
    added_fit taken items (from_above n (pos p)) hs w (λ q a b. below q a (omega (arith, a, b, small))) both.1 (omega (arith, lt))
added_fit taken (Some (negsuc p) ∷ items) n hs w below far lt = added_fit taken items n hs w below far (omega (arith, lt))
added_fit taken (None ∷ items) n hs w below far lt =
    let l = least_free taken n in
    let s = least taken n in
    let all : ((q : ℕ) → 2 ^ 126 ≤ q → q < l → held hs q ≡ true) = λ q a. below_least taken n l hs w s.before q (below q a) in
    let few : l ≤ 2 ^ 126 + length hs = past_base hs (2 ^ 126) l all in
    let from : n ≤ l = s.from in
    let r = added_fit taken items (from_above n (pos l)) (l ∷ hs) (λ q e. or_second (nat_eq q l) (held hs q) (w q e)) (λ q a b. one_more hs l q (all q a) (omega (arith, from, b))) far (omega (arith, lt)) in
    ap (λ o. at_number o false (λ z. additions_fit taken (from_above n z) items)) (of_bits l (omega (arith, few, lt))) ∙ r

items_few : (p : Place) (in_name : Bool) (bs : List ℕ) → length (items_from p in_name bs) ≤ length bs
unfolding items_from
items_few p in_name [] = omega arith
items_few p in_name (b ∷ bs) =
    go (is_outside p (b ∷ bs) && nat_eq b 46) (is_outside p (b ∷ bs) && in_class Letter b && not in_name) (items_few (onward p (b ∷ bs)) true bs) (items_few (onward p (b ∷ bs)) (in_name && goes_on p b bs) bs)
  where
    go : (a t : Bool) → length (items_from (onward p (b ∷ bs)) true bs) ≤ length bs → length (items_from (onward p (b ∷ bs)) (in_name && goes_on p b bs) bs) ≤ length bs → length (if a then [] else if t then in_parentheses (bare (behind_name bs)) ∷ items_from (onward p (b ∷ bs)) true bs else items_from (onward p (b ∷ bs)) (in_name && goes_on p b bs) bs) ≤ suc (length bs)
    go true t g h = omega arith
    go false true g h = omega (arith, g)
    go false false g h = omega (arith, h)

past_few : (p : Place) (mark : ℕ) (bs : List ℕ) → length (past_from p mark bs) ≤ length bs
unfolding past_from
past_few p mark [] = omega arith
past_few p mark (b ∷ bs) = go (is_outside p (b ∷ bs) && nat_eq b mark) (past_few (onward p (b ∷ bs)) mark bs)
  where
    go : (a : Bool) → length (past_from (onward p (b ∷ bs)) mark bs) ≤ length bs → length (if a then bs else past_from (onward p (b ∷ bs)) mark bs) ≤ suc (length bs)
    go true h = omega arith
    go false h = omega (arith, h)

pub far_fit : (taken : List ℕ) → length taken < 2 ^ 64 → list_all is_far (added_items taken) ≡ true → numbers_fit taken ≡ true
far_fit taken lt far =
    let inside = past_from (within 0) 123 taken in
    let a = items_few (within 0) false inside in
    let b = past_few (within 0) 123 taken in
    let one = past_from (within 0) 46 taken in
    let two = past_from (within 0) 46 one in
    let c = items_few (within 0) false (past_from (within 0) 46 two) in
    let d = past_few (within 0) 46 two in
    let e = past_few (within 0) 46 one in
    let f = past_few (within 0) 46 taken in
    let root = root_items taken in
    let few : length root < 2 ^ 64 = omega (arith, a, b, lt) in
    let few_added : length (added_items taken) < 2 ^ 64 = omega (arith, c, d, e, f, lt) in
    let g = written_few root in
    let h = naturals_few (written root) in
    let r = root_has (written root) root 0 (naturals (written root)) (natural_held (written root)) (λ q below. absurd (omega arith)) (omega (arith, g, h, few)) in
    let i = naturals_few r.0 in
    let j = r.2 in
    ap (λ o. fit_behind o (added_items taken)) r.1
    ∙ added_fit (is_among r.0) (added_items taken) 0 (naturals r.0) (natural_held r.0) (λ q up below. absurd (omega arith)) far (omega (arith, i, j, few, few_added))
