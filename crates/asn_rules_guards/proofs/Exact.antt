-- The guard on enumerations tells what the standard's numbers do.
use Rattle.std.proofs.Common.{◌≡◌, SFits, ℕ, ◌^◌, ◌<◌, List, [], ◌∷◌, ◌++◌, Bool, true, false, not, Option, Some, None, ℤ, pos, negsuc, refl, sym, subst, arith, append_assoc, append-nil}
use Rattle.std.specs.Prelude.{⊤, ◌-◌, nat_eq, nat_lt, nat_le, ◌&&◌, if◌then◌else◌, ◌↔◌}
use Rattle.std.specs.Int.{w128}
use Rattle.std.proofs.lemmas.Bool.Decides.{Decides-ltb, nat_tests}
use Rattle.asn_tree_numbers.specs.Enumeration.{has, written, AreNumbers, AreOfAdditions, AreOfRoot, Numbered, NumbersPass, SomePasses, from_above, if_fits}
use Rattle.asn_tree_numbers.specs.inner.Counting.{IsGiven, IsLeastFrom, Passes, from_behind}
use Rattle.asn_tree_numbers.proofs.Counting.{Sofar, additions_pass, begun, finished, fit_together, found, passed, root_passes, stepped, stopped}
use Rattle.asn_tree_numbers.proofs.Distinct.{none_pass}
use Rattle.asn_rules_guards.specs.Lexical.{in_class}
use Rattle.asn_rules_guards.specs.declared.asked.ByteClass.TheVariants.{Letter}
use Rattle.asn_rules_guards.specs.Guards.{Place, within, onward, is_outside, bare, are_digits, before, fits, number, spelled, unsigned}
use Rattle.asn_rules_guards.specs.Enumerations.{FitIsExact, added_items, additions_fit, at_number, behind_item, behind_name, fit_behind, given, goes_on, in_parentheses, is_among, items_from, least_free, past, put_before, root_items, root_numbers}
use Rattle.asn_rules_guards.proofs.Numbered.{least}

-- What is written is of 128 bits.

abbrev Small : Option ℤ → Type 0
Small None = ⊤
Small (Some m) = SFits w128 m

abbrev AllSmall : List (Option ℤ) → Type 0
AllSmall [] = ⊤
AllSmall (item ∷ items) = Small item × AllSmall items

fits_small : (z : ℤ) → fits 127 z ≡ true → SFits w128 z
fits_small (pos n) e = record { sfits = (Decides-ltb n (2 ^ 127)).0 e }
fits_small (negsuc n) e = go (nat_le n (2 ^ 127 - 1)) refl e
  where
    go : (b : Bool) → nat_le n (2 ^ 127 - 1) ≡ b → (b && true) ≡ true → SFits w128 (negsuc n)
    go true t e = record { sfits = grind (arith, nat_tests, t) }
    go false t e = absurd cc

fitting_small : (z : ℤ) → Small (if fits 127 z then Some z else None)
fitting_small z = go (fits 127 z) (fits_small z)
  where
    go : (b : Bool) → (b ≡ true → SFits w128 z) → Small (if b then Some z else None)
    go true h = h refl
    go false h = tt

number_small : (bs : List ℕ) → Small (number bs)
number_small bs = go (are_digits (unsigned bs)) (fitting_small (spelled bs))
  where
    go : (b : Bool) → Small (if fits 127 (spelled bs) then Some (spelled bs) else None) → Small (if b then (if fits 127 (spelled bs) then Some (spelled bs) else None) else None)
    go true h = h
    go false h = tt

parentheses_small : (bs : List ℕ) → Small (in_parentheses bs)
parentheses_small [] = tt
parentheses_small (b ∷ bs) = go (nat_eq b 40) (number_small (before 41 bs))
  where
    go : (t : Bool) → Small (number (before 41 bs)) → Small (if t then number (before 41 bs) else None)
    go true h = h
    go false h = tt

items_small : (p : Place) (in_name : Bool) (bs : List ℕ) → AllSmall (items_from p in_name bs)
unfolding items_from
items_small p in_name [] = tt
items_small p in_name (b ∷ bs) =
    go (is_outside p (b ∷ bs) && nat_eq b 46) (is_outside p (b ∷ bs) && in_class Letter b && not in_name) (parentheses_small (bare (behind_name bs))) (items_small (onward p (b ∷ bs)) true bs) (items_small (onward p (b ∷ bs)) (in_name && goes_on p b bs) bs)
  where
    go : (d l : Bool) → Small (in_parentheses (bare (behind_name bs))) → AllSmall (items_from (onward p (b ∷ bs)) true bs) → AllSmall (items_from (onward p (b ∷ bs)) (in_name && goes_on p b bs) bs) → AllSmall (if d then [] else if l then in_parentheses (bare (behind_name bs)) ∷ items_from (onward p (b ∷ bs)) true bs else items_from (onward p (b ∷ bs)) (in_name && goes_on p b bs) bs)
    go true l s h k = tt
    go false true s h k = (s, h)
    go false false s h k = k

-- What an item is given.

free_given : (taken : List ℤ) (n : ℕ) → (z : Option ℤ) → if_fits (least_free (is_among taken) n) ≡ z → (k : ℕ) × IsLeastFrom taken n k × (z ≡ if_fits k)
free_given taken n (Some z) e = let l = least (is_among taken) n in found taken n (least_free (is_among taken) n) z l.from l.before e (free (least_free (is_among taken) n) e l.free)
  where
    free : (k : ℕ) → if_fits k ≡ Some z → (k < 2 ^ 127 → has taken (pos k) ≡ false) → has taken z ≡ false
    free k e f = go (nat_lt k (2 ^ 127)) (Decides-ltb k (2 ^ 127)).0 e
      where
        go : (b : Bool) → (b ≡ true → k < 2 ^ 127) → (if b then Some (pos k) else None) ≡ Some z → has taken z ≡ false
        go true d e = let same : pos k ≡ z = cc in subst (λ x. has taken x ≡ false) same (f (d refl))
        go false d e = absurd cc
free_given taken n None e = let l = least (is_among taken) n in passed taken n (least_free (is_among taken) n) l.from l.before e

is_given : (taken : List ℤ) (n : ℕ) (item : Option ℤ) (z : Option ℤ) → given (is_among taken) n item ≡ z → IsGiven taken n item z
is_given taken n (Some m) z e = sym e
is_given taken n None z e = free_given taken n z e

given_small : (taken : List ℤ) (n : ℕ) (item : Option ℤ) (z : ℤ) → Small item → given (is_among taken) n item ≡ Some z → SFits w128 z
given_small taken n (Some m) z s e = let same : m ≡ z = cc in subst (SFits w128) same s
given_small taken n None z s e = go (nat_lt (least_free (is_among taken) n) (2 ^ 127)) (Decides-ltb (least_free (is_among taken) n) (2 ^ 127)).0 e
  where
    go : (b : Bool) → (b ≡ true → least_free (is_among taken) n < 2 ^ 127) → (if b then Some (pos (least_free (is_among taken) n)) else None) ≡ Some z → SFits w128 z
    go true d e = let same : pos (least_free (is_among taken) n) ≡ z = cc in subst (SFits w128) same (record { sfits = d refl })
    go false d e = absurd cc

-- The numbers of a part: the part itself is told by what is counted behind its items.

-- what a walk comes to: one passes, or all are told
abbrev Comes : {A : Type 0} → Type 0 → (A → Type 0) → Option A → Type 0
Comes P Q None = P
Comes P Q (Some x) = Q x

onto : (P : Type 0) (Q : List ℤ → Type 0) (before : List ℤ) (z : ℤ) (o : Option (List ℤ)) → Comes P (λ ns. Q ((before ++ z ∷ []) ++ ns)) o → Comes P (λ ns. Q (before ++ ns)) (put_before z o)
onto P Q before z None h = h
onto P Q before z (Some ns) h = subst Q (append_assoc before (z ∷ []) ns) h

at_given : {A : Type 0} (P : Option A → Type 0) (none : Option A) (f : ℤ → Option A) (o : Option ℤ) → (o ≡ None → P none) → ((z : ℤ) → o ≡ Some z → P (f z)) → P (at_number o none f)
at_given P none f None h k = h refl
at_given P none f (Some z) h k = k z refl

by_item : (P : Option ℤ → Type 0) → ((m : ℤ) → P (Some m)) → P None → (item : Option ℤ) → P item
by_item P h k (Some m) = h m
by_item P h k None = k

rooted : (part : _) (taken : List ℤ) (items left : List (Option ℤ)) (before : List ℤ) (n : ℕ) → ((j : ℕ) (m z : ℤ) → from_behind part j (Some m) z ≡ j) → ((j : ℕ) (z : ℤ) → from_behind part j None z ≡ from_above j z) → AllSmall left → Sofar part taken items left before n → Comes (Passes part taken items) (λ ns. (end : ℕ) × Sofar part taken items [] (before ++ ns) end) (root_numbers (is_among taken) n left)
rooted part taken items [] before n stay on a s = (n, subst (λ ns. Sofar part taken items [] ns n) (sym (append-nil before)) s)
rooted part taken items (item ∷ left) before n stay on a s =
    at_given (Comes (Passes part taken items) (λ ns. (end : ℕ) × Sofar part taken items [] (before ++ ns) end)) None (λ z. put_before z (root_numbers (is_among taken) (behind_item n item z) left)) (given (is_among taken) n item)
    (λ e. stopped part taken items item left before n s (is_given taken n item None e))
    (λ z e. onto (Passes part taken items) (λ ns. (end : ℕ) × Sofar part taken items [] ns end) before z (root_numbers (is_among taken) (behind_item n item z) left) (rooted part taken items left (before ++ z ∷ []) (behind_item n item z) stay on a.1 (subst (Sofar part taken items left (before ++ z ∷ [])) (by_item (λ i. from_behind part n i z ≡ behind_item n i z) (λ m. stay n m z) (on n z) item) (stepped part taken items item left before n z s (is_given taken n item (Some z) e) (given_small taken n item z a.0 e)))))

-- what a test comes to
abbrev Tells : Type 0 → Type 0 → Bool → Type 0
Tells P Q false = P
Tells P Q true = Q

tested : (P Q : Type 0) (f : ℤ → Bool) (o : Option ℤ) → (o ≡ None → P) → ((z : ℤ) → o ≡ Some z → Tells P Q (f z)) → Tells P Q (at_number o false f)
tested P Q f None h k = h refl
tested P Q f (Some z) h k = k z refl

added : (part : _) (taken : List ℤ) (items left : List (Option ℤ)) (before : List ℤ) (n : ℕ) → ((j : ℕ) (item : Option ℤ) (z : ℤ) → from_behind part j item z ≡ from_above j z) → AllSmall left → Sofar part taken items left before n → Tells (Passes part taken items) ((ns : List ℤ) × (end : ℕ) × Sofar part taken items [] ns end) (additions_fit (is_among taken) n left)
added part taken items [] before n on a s = (before, n, s)
added part taken items (item ∷ left) before n on a s =
    tested (Passes part taken items) ((ns : List ℤ) × (end : ℕ) × Sofar part taken items [] ns end) (λ z. additions_fit (is_among taken) (from_above n z) left) (given (is_among taken) n item)
    (λ e. stopped part taken items item left before n s (is_given taken n item None e))
    (λ z e. added part taken items left (before ++ z ∷ []) (from_above n z) on a.1 (subst (Sofar part taken items left (before ++ z ∷ [])) (on n item z) (stepped part taken items item left before n z s (is_given taken n item (Some z) e) (given_small taken n item z a.0 e))))

-- Both.

behind_added : (root additions : List (Option ℤ)) (of_root : List ℤ) (b : Bool) (part : _) → (Passes part of_root additions → NumbersPass root additions) → ((ns : List ℤ) → Numbered part of_root [] additions ns → AreOfAdditions of_root additions ns) → AreOfRoot root of_root → (SomePasses of_root → ⊥) → Tells (Passes part of_root additions) ((ns : List ℤ) × (end : ℕ) × Sofar part of_root additions [] ns end) b → (b ≡ false) ↔ NumbersPass root additions
behind_added root additions of_root false part pass are rs fit h = (λ e. pass h, λ p. refl)
behind_added root additions of_root true part pass are rs fit h =
    let all : AreNumbers root additions (of_root ++ h.0) = record { of_root = of_root; of_additions = h.0; root_has = rs; additions_have = are h.0 (finished part of_root additions [] h.0 h.1 h.2 refl); together = refl } in
    (λ e. absurd cc, λ p. absurd (none_pass root additions (of_root ++ h.0) all (fit_together of_root h.0 fit h.2.fit) p))

behind_root : (root additions : List (Option ℤ)) (o : Option (List ℤ)) (part : _) → (Passes part (written root) root → NumbersPass root additions) → ((ns : List ℤ) → Numbered part (written root) [] root ns → AreOfRoot root ns) → ((ns : List ℤ) → AreOfRoot root ns → (SomePasses ns → ⊥) → (additions_fit (is_among ns) 0 additions ≡ false) ↔ NumbersPass root additions) → Comes (Passes part (written root) root) (λ ns. (end : ℕ) × Sofar part (written root) root [] ([] ++ ns) end) o → (fit_behind o additions ≡ false) ↔ NumbersPass root additions
behind_root root additions None part pass are on h = (λ e. pass h, λ p. refl)
behind_root root additions (Some ns) part pass are on h = on ns (are ns (finished part (written root) root [] ns h.0 h.1 refl)) h.1.fit

added_exact : (root additions : List (Option ℤ)) → AllSmall additions → (ns : List ℤ) → AreOfRoot root ns → (SomePasses ns → ⊥) → (additions_fit (is_among ns) 0 additions ≡ false) ↔ NumbersPass root additions
added_exact root additions a ns rs fit =
    behind_added root additions ns (additions_fit (is_among ns) 0 additions) _ (additions_pass root additions ns rs) (λ ms h. h) rs fit
    (added _ ns additions additions [] 0 (λ j item z. refl) a (begun _ ns additions))

fit_exact : (root additions : List (Option ℤ)) → AllSmall root → AllSmall additions → (fit_behind (root_numbers (is_among (written root)) 0 root) additions ≡ false) ↔ NumbersPass root additions
fit_exact root additions s a =
    behind_root root additions (root_numbers (is_among (written root)) 0 root) _ (root_passes root additions) (λ ns h. h) (added_exact root additions a)
    (rooted _ (written root) root root [] 0 (λ j m z. refl) (λ j z. refl) s (begun _ (written root) root))

pub is_exact : FitIsExact
is_exact taken = fit_exact (root_items taken) (added_items taken) (items_small (within 0) false (past 123 taken)) (items_small (within 0) false (past 46 (past 46 (past 46 taken))))
