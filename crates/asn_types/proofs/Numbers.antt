-- The numbers that are computed are the standard's.
use Rattle.std.proofs.Common.{◌≡◌, ℕ, ◌^◌, ◌<◌, ◌≤◌, inl, inr, ℤ, pos, negsuc, ◌≤ℤ◌, ◌<ℤ◌, List, [], ◌∷◌, ◌++◌, Bool, true, false, Option, Some, None, refl, sym, ap, ◌∙◌, subst, arith}
use Rattle.std.specs.Prelude.{not, nat_lt, ◌&&◌, if◌then◌else◌}
use Rattle.std.specs.List.{list_all}
use Rattle.std.proofs.lemmas.Bool.Decides.{nat_tests}
use Rattle.std.proofs.lemmas.Int.{ints}
use Rattle.asn_tree_numbers.specs.Enumeration.{has, written, if_fits, IsAbove, IsFree, IsNext, AreNumbers, AreOfAdditions, AreOfRoot, Numbered, NumbersPass, SomePasses, behind}
use Rattle.asn_tree_numbers.proofs.Counting.{additions_pass, root_passes}
use Rattle.asn_tree_numbers.specs.inner.Counting.{Passes}
use Rattle.asn_rules_guards.proofs.Numbered.{Least, least}
use Rattle.asn_rules_guards.specs.Enumerations.{least_free}
use Rattle.asn_read_nodes.specs.Parts.{of_some}
use Rattle.asn_types.specs.Enumerations.{is_above, is_free, next, numbers_from, numbers_of, with_earlier}

-- The test tells what is free.

both : (a b : Bool) → (a && b) ≡ true → (a ≡ true) × (b ≡ true)
both true b e = (refl, e)
both false b e = absurd cc

opposite : (b : Bool) → not b ≡ false → b ≡ true
opposite true e = refl
opposite false e = absurd cc

above_one : (m : ℤ) (n : ℕ) → m <ℤ pos n → is_above n m ≡ true
above_one (pos m) n h = let lt : m < n = omega (arith, ints, h) in grind (arith, nat_tests, lt)
above_one (negsuc m) n h = refl

one_above : (m : ℤ) (n : ℕ) → is_above n m ≡ true → m <ℤ pos n
one_above (pos m) n e = let lt : m < n = grind (arith, nat_tests, e) in omega (arith, ints, lt)
one_above (negsuc m) n e = omega (arith, ints)

above_tested : (earlier : List ℤ) (n : ℕ) → IsAbove earlier (pos n) → list_all (is_above n) earlier ≡ true
above_tested [] n h = refl
above_tested (m ∷ ms) n h = ap (λ b. b && list_all (is_above n) ms) (above_one m n h.0) ∙ above_tested ms n h.1

tested_above : (earlier : List ℤ) (n : ℕ) → list_all (is_above n) earlier ≡ true → IsAbove earlier (pos n)
tested_above [] n e = tt
tested_above (m ∷ ms) n e =
    let parts = both (is_above n m) (list_all (is_above n) ms) e in
    (one_above m n parts.0, tested_above ms n parts.1)

free_tested : (taken earlier : List ℤ) (n : ℕ) → IsFree taken earlier (pos n) → is_free taken earlier n ≡ true
free_tested taken earlier n h = ap (λ b. not b && list_all (is_above n) earlier) h.is_new ∙ above_tested earlier n h.is_above

tested_free : (taken earlier : List ℤ) (n : ℕ) → is_free taken earlier n ≡ true → IsFree taken earlier (pos n)
tested_free taken earlier n e =
    let parts = both (not (has taken (pos n))) (list_all (is_above n) earlier) e in
    record { not_negative = omega (arith, ints); is_new = new (has taken (pos n)) parts.0; is_above = tested_above earlier n parts.1 }
  where
    new : (b : Bool) → not b ≡ true → b ≡ false
    new true e = absurd cc
    new false e = refl

-- The least that is free is found, if it is one of 128 bits.

fitting : (n : ℕ) → n < 2 ^ 127 → if_fits n ≡ Some (pos n)
fitting n lt = go (nat_lt n (2 ^ 127)) refl
  where
    go : (b : Bool) → nat_lt n (2 ^ 127) ≡ b → (if b then Some (pos n) else None) ≡ Some (pos n)
    go true e = refl
    go false e = absurd (grind (arith, nat_tests, lt, e))

same_number : (l m : ℕ) → (l < m → ⊥) → (m < l → ⊥) → l ≡ m
same_number l m a b = go (nat_lt l m) refl (nat_lt m l) refl
  where
    go : (s : Bool) → nat_lt l m ≡ s → (t : Bool) → nat_lt m l ≡ t → l ≡ m
    go true e t f = absurd (a (grind (arith, nat_tests, e)))
    go false e true f = absurd (b (grind (arith, nat_tests, f)))
    go false e false f = grind (arith, nat_tests, e, f)

least_found : (taken earlier : List ℤ) (m : ℕ) → IsNext taken earlier (pos m) → m < 2 ^ 127 → least_free (λ n. not (is_free taken earlier n)) 0 ≡ m
least_found taken earlier m h lt =
    let test : ℕ → Bool = λ n. not (is_free taken earlier n) in
    go (least_free (λ n. not (is_free taken earlier n)) 0) (least (λ n. not (is_free taken earlier n)) 0)
  where
    no_less : (l : ℕ) → Least (λ n. not (is_free taken earlier n)) 0 l → l < m → ⊥
    no_less l k under =
        let free : IsFree taken earlier (pos l) = tested_free taken earlier l (opposite (is_free taken earlier l) (k.free (omega (arith, lt, under)))) in
        let le : pos m ≤ℤ pos l = h.is_least (pos l) free in
        omega (arith, ints, le, under)

    no_more : (l : ℕ) → Least (λ n. not (is_free taken earlier n)) 0 l → m < l → ⊥
    no_more l k over =
        let held : not (is_free taken earlier m) ≡ true = k.before m (omega arith) over in
        let free : is_free taken earlier m ≡ true = free_tested taken earlier m h.is_free in
        let one : false ≡ true = ap not (sym free) ∙ held in
        cc

    go : (l : ℕ) → Least (λ n. not (is_free taken earlier n)) 0 l → l ≡ m
    go l k = same_number l m (no_less l k) (no_more l k)

next_found : (taken earlier : List ℤ) (z : ℤ) → IsNext taken earlier z → (pos (2 ^ 127) ≤ℤ z → ⊥) → next taken earlier ≡ Some z
next_found taken earlier (pos m) h fit =
    let lt : m < 2 ^ 127 = under (nat_lt m (2 ^ 127)) refl in
    ap if_fits (least_found taken earlier m h lt) ∙ fitting m lt
  where
    under : (b : Bool) → nat_lt m (2 ^ 127) ≡ b → m < 2 ^ 127
    under true e = grind (arith, nat_tests, e)
    under false e = absurd (fit (let le : 2 ^ 127 ≤ m = grind (arith, nat_tests, e) in omega (arith, ints, le)))
next_found taken earlier (negsuc m) h fit = absurd (let up : pos 0 ≤ℤ negsuc m = h.is_free.not_negative in omega (arith, ints, up))

-- So the numbers of a part are those of the standard: the part is told by what its later numbers stand above.

numbers_come : (part : _) (additions : Bool) → ((e : List ℤ) (m n : ℤ) → behind part e (Some m) n ≡ with_earlier additions e (Some m) n) → ((e : List ℤ) (n : ℤ) → behind part e None n ≡ with_earlier additions e None n) → (taken earlier : List ℤ) (items : List (Option ℤ)) (ns : List ℤ) → Numbered part taken earlier items ns → (SomePasses ns → ⊥) → numbers_from additions taken earlier items ≡ Some ns
numbers_come part additions some none taken earlier [] [] h fit = refl
numbers_come part additions some none taken earlier [] (n ∷ ns) h fit = absurd h
numbers_come part additions some none taken earlier (item ∷ items) [] h fit = absurd h
numbers_come part additions some none taken earlier (Some m ∷ items) (n ∷ ns) h fit =
    let is : n ≡ m = h.0 in
    let rest : numbers_from additions taken (behind part earlier (Some m) n) items ≡ Some ns = numbers_come part additions some none taken (behind part earlier (Some m) n) items ns h.1 (λ p. fit (inr p)) in
    let moved : numbers_from additions taken (with_earlier additions earlier (Some m) m) items ≡ Some ns = subst (λ k. numbers_from additions taken (with_earlier additions earlier (Some m) k) items ≡ Some ns) is (subst (λ e. numbers_from additions taken e items ≡ Some ns) (some earlier m n) rest) in
    ap (λ o. of_some o (λ ns. Some (m ∷ ns))) moved ∙ ap (λ k. Some (k ∷ ns)) (sym is)
numbers_come part additions some none taken earlier (None ∷ items) (n ∷ ns) h fit =
    let is : next taken earlier ≡ Some n = next_found taken earlier n h.0 (λ p. fit (inl p)) in
    let rest : numbers_from additions taken (behind part earlier None n) items ≡ Some ns = numbers_come part additions some none taken (behind part earlier None n) items ns h.1 (λ p. fit (inr p)) in
    let moved : numbers_from additions taken (with_earlier additions earlier None n) items ≡ Some ns = subst (λ e. numbers_from additions taken e items ≡ Some ns) (none earlier n) rest in
    ap (λ o. of_some o (λ n. of_some (numbers_from additions taken (with_earlier additions earlier None n) items) (λ ns. Some (n ∷ ns)))) is
    ∙ ap (λ o. of_some o (λ ns. Some (n ∷ ns))) moved

passes_before : (xs ys : List ℤ) → SomePasses xs → SomePasses (xs ++ ys)
passes_before [] ys p = absurd p
passes_before (x ∷ xs) ys (inl p) = inl p
passes_before (x ∷ xs) ys (inr p) = inr (passes_before xs ys p)

passes_behind : (xs ys : List ℤ) → SomePasses ys → SomePasses (xs ++ ys)
passes_behind [] ys p = p
passes_behind (x ∷ xs) ys p = inr (passes_behind xs ys p)

-- the part is told by where its numbers pass
told_by : (part : _) (taken : List ℤ) (items : List (Option ℤ)) (P : Type 0) → (Passes part taken items → P) → (additions : Bool) → ((e : List ℤ) (m n : ℤ) → behind part e (Some m) n ≡ with_earlier additions e (Some m) n) → ((e : List ℤ) (n : ℤ) → behind part e None n ≡ with_earlier additions e None n) → (ns : List ℤ) → Numbered part taken [] items ns → (SomePasses ns → ⊥) → numbers_from additions taken [] items ≡ Some ns
told_by part taken items P pass additions some none ns h fit = numbers_come part additions some none taken [] items ns h fit

root_come : (root additions : List (Option ℤ)) (ns : List ℤ) → AreOfRoot root ns → (SomePasses ns → ⊥) → numbers_from false (written root) [] root ≡ Some ns
root_come root additions ns h fit = told_by _ (written root) root (NumbersPass root additions) (root_passes root additions) false (λ e m n. refl) (λ e n. refl) ns h fit

additions_come : (root additions : List (Option ℤ)) (of_root ns : List ℤ) → AreOfRoot root of_root → AreOfAdditions of_root additions ns → (SomePasses ns → ⊥) → numbers_from true of_root [] additions ≡ Some ns
additions_come root additions of_root ns r h fit = told_by _ of_root additions (NumbersPass root additions) (additions_pass root additions of_root r) true (λ e m n. refl) (λ e n. refl) ns h fit

-- Where no number passes 128 bits, the numbers that the standard gives are computed.
pub numbers_are : (root additions : List (Option ℤ)) (ns : List ℤ) → AreNumbers root additions ns → (NumbersPass root additions → ⊥) → numbers_of root additions ≡ Some ns
numbers_are root additions ns a fit =
    let within : SomePasses (a.of_root ++ a.of_additions) → ⊥ = λ p. fit (record { numbers = ns; are_numbers = a; pass = subst SomePasses (sym a.together) p }) in
    ap (λ o. of_some o (λ of_root. of_some (numbers_from true of_root [] additions) (λ of_additions. Some (of_root ++ of_additions)))) (root_come root additions a.of_root a.root_has (λ p. within (passes_before a.of_root a.of_additions p)))
    ∙ ap (λ o. of_some o (λ of_additions. Some (a.of_root ++ of_additions))) (additions_come root additions a.of_root a.of_additions a.root_has a.additions_have (λ p. within (passes_behind a.of_root a.of_additions p)))
    ∙ ap Some (sym a.together)
