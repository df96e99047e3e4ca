-- Counting gives the numbers of the standard.
use Rattle.std.proofs.Common.{◌≡◌, SFits, ℕ, zero, suc, ◌+◌, ◌≤◌, ◌<◌, ◌^◌, inl, inr, max, ℤ, pos, negsuc, ◌≤ℤ◌, ◌<ℤ◌, Bool, true, false, ◌||◌, if◌then◌else◌, nat_lt, List, [], ◌∷◌, ◌++◌, Option, Some, None, refl, ap, sym, ◌∙◌, subst, arith, append_assoc, append-nil}
use Rattle.std.specs.Int.{w128}
use Rattle.std.specs.Ordering.{int_eq}
use Rattle.std.proofs.lemmas.Bool.Decides.{Decides-int_eq, nat_tests}
use Rattle.std.proofs.lemmas.Int.{ints}
use Rattle.asn_tree_numbers.specs.declared.enumeration.Part.{Part}
use Rattle.asn_tree_numbers.specs.declared.enumeration.Part.TheVariants.{Root, Additions}
use Rattle.asn_tree_numbers.specs.Enumeration.{has, written, IsAbove, IsFree, IsNext, IsNumberOf, behind, Numbered, AreOfRoot, SomePasses, NumbersPass, if_fits, from_above}
use Rattle.asn_tree_numbers.specs.inner.Counting.{IsLeastFrom, from_behind, IsGiven, Passes}

-- Where a number is above all earlier ones: from `from` on.
pub record Floor (earlier : List ℤ) (from : ℕ) : Type 0 where
  pub rises : (k : ℕ) → IsAbove earlier (pos k) → from ≤ k
  pub holds : (k : ℕ) → from ≤ k → IsAbove earlier (pos k)

floor_start : Floor [] 0
floor_start = record { rises = λ k h. omega arith; holds = λ k h. tt }

floor_push : (earlier : List ℤ) (from : ℕ) → Floor earlier from → (n : ℤ) → Floor (n ∷ earlier) (from_above from n)
floor_push earlier from f (pos n) =
    record {
      rises = λ k h. (let low : from ≤ k = f.rises k h.1 in let over : pos n <ℤ pos k = h.0 in omega (arith, ints));
      holds = λ k h. ((let up : max from (n + 1) ≤ k = h in omega (arith, ints)), f.holds k (let up : max from (n + 1) ≤ k = h in omega arith));
    }
floor_push earlier from f (negsuc n) =
    record { rises = λ k h. f.rises k h.1; holds = λ k h. (omega (arith, ints), f.holds k h) }

floor_behind : (part : Part) (earlier : List ℤ) (from : ℕ) → Floor earlier from → (item : Option ℤ) (n : ℤ) → Floor (behind part earlier item n) (from_behind part from item n)
floor_behind Root earlier from f (Some m) n = f
floor_behind Root earlier from f None n = floor_push earlier from f n
floor_behind Additions earlier from f item n = floor_push earlier from f n

-- The least number from there on is the least that is free.
next_is : (taken earlier : List ℤ) (from n : ℕ) → Floor earlier from → IsLeastFrom taken from n → IsNext taken earlier (pos n)
next_is taken earlier from n f l =
    record {
      is_free = record { not_negative = omega (arith, ints); is_new = l.is_new; is_above = f.holds n l.is_from };
      is_least = least;
    }
  where
    at : (k : ℕ) → from ≤ k → has taken (pos k) ≡ false → (b : Bool) → nat_lt k n ≡ b → n ≤ k
    at k low new true e = absurd (let under : k < n = grind (arith, nat_tests) in let old = l.is_least k low under in cc)
    at k low new false e = grind (arith, nat_tests)

    least : (k : ℤ) → IsFree taken earlier k → pos n ≤ℤ k
    least (pos k) h = let le : n ≤ k = at k (f.rises k h.is_above) h.is_new (nat_lt k n) refl in omega (arith, ints)
    least (negsuc k) h = absurd (let up : pos 0 ≤ℤ negsuc k = h.not_negative in omega (arith, ints))

-- What a test of 128 bits tells.
fits_some : (n : ℕ) (z : ℤ) → if_fits n ≡ Some z → z ≡ pos n
fits_some n z h = go (nat_lt n (2 ^ 127)) h
  where
    go : (b : Bool) → (if b then Some (pos n) else None) ≡ Some z → z ≡ pos n
    go true e = cc
    go false e = absurd (cc)

fits_none : (n : ℕ) → if_fits n ≡ None → 2 ^ 127 ≤ n
fits_none n h = go (nat_lt n (2 ^ 127)) refl h
  where
    go : (b : Bool) → nat_lt n (2 ^ 127) ≡ b → ◌≡◌ {A = Option ℤ} (if b then Some (pos n) else None) None → 2 ^ 127 ≤ n
    go true t e = absurd (cc)
    go false t e = grind (arith, nat_tests)

differs : (x y : ℤ) → (x ≡ y → ⊥) → int_eq x y ≡ false
differs x y h = go (int_eq x y) (Decides-int_eq x y).0
  where
    go : (b : Bool) → (b ≡ true → x ≡ y) → b ≡ false
    go true d = absurd (h (d refl))
    go false d = refl

-- A bound above all numbers of a list.
bound : List ℤ → ℕ
bound [] = 0
bound (pos n ∷ xs) = n + 1 + bound xs
bound (negsuc n ∷ xs) = bound xs

beyond : (xs : List ℤ) (k : ℕ) → bound xs ≤ k → has xs (pos k) ≡ false
unfolding bound
beyond [] k h = refl
beyond (pos n ∷ xs) k h =
    let up : n + 1 + bound xs ≤ k = h in
    let head = differs (pos n) (pos k) (λ (e : pos n ≡ pos k). omega (arith, ints)) in
    ap (λ b. b || has xs (pos k)) head ∙ beyond xs k (omega arith)
beyond (negsuc n ∷ xs) k h =
    let head = differs (negsuc n) (pos k) (λ (e : negsuc n ≡ pos k). cc) in
    ap (λ b. b || has xs (pos k)) head ∙ beyond xs k h

here : (xs : List ℤ) (k : ℕ) → has xs (pos k) ≡ false → (n : ℕ) × IsLeastFrom xs k n
here xs k e = (k, record { is_from = omega arith; is_new = e; is_least = λ j a b. absurd (omega arith) })

later : (xs : List ℤ) (k n : ℕ) → has xs (pos k) ≡ true → IsLeastFrom xs (k + 1) n → IsLeastFrom xs k n
later xs k n e l = record { is_from = (let low = l.is_from in omega arith); is_new = l.is_new; is_least = λ j a b. at j a b (nat_lt k j) refl }
  where
    at : (j : ℕ) → k ≤ j → j < n → (b : Bool) → nat_lt k j ≡ b → has xs (pos j) ≡ true
    at j a b true t = l.is_least j (grind (arith, nat_tests)) b
    at j a b false t = let same : k ≡ j = grind (arith, nat_tests) in subst (λ i. has xs (pos i) ≡ true) same e

seek : (fuel : ℕ) (xs : List ℤ) (k : ℕ) → bound xs ≤ k + fuel → (n : ℕ) × IsLeastFrom xs k n
seek zero xs k h = here xs k (beyond xs k (omega arith))
seek (suc fuel) xs k h = go (seek fuel xs (k + 1) (omega arith)) (has xs (pos k)) refl
  where
    go : ((n : ℕ) × IsLeastFrom xs (k + 1) n) → (b : Bool) → has xs (pos k) ≡ b → (n : ℕ) × IsLeastFrom xs k n
    go found true e = (found.0, later xs k found.0 e found.1)
    go found false e = here xs k e

-- Items have numbers, whatever their bits.
some_numbers : (part : Part) (taken : List ℤ) (items : List (Option ℤ)) (earlier : List ℤ) (from : ℕ) → Floor earlier from → (ns : List ℤ) × Numbered part taken earlier items ns
some_numbers part taken [] earlier from f = ([], tt)
some_numbers part taken (Some m ∷ items) earlier from f =
    let rest = some_numbers part taken items (behind part earlier (Some m) m) (from_behind part from (Some m) m) (floor_behind part earlier from f (Some m) m) in
    (m ∷ rest.0, (refl, rest.1))
some_numbers part taken (None ∷ items) earlier from f =
    let n = seek (bound taken) taken from (omega arith) in
    let rest = some_numbers part taken items (behind part earlier None (pos n.0)) (from_behind part from None (pos n.0)) (floor_behind part earlier from f None (pos n.0)) in
    (pos n.0 ∷ rest.0, (next_is taken earlier from n.0 f n.1, rest.1))

passes_within : (xs : List ℤ) (n : ℤ) (ns : List ℤ) → pos (2 ^ 127) ≤ℤ n → SomePasses (xs ++ n ∷ ns)
passes_within [] n ns h = inl h
passes_within (x ∷ xs) n ns h = inr (passes_within xs n ns h)

passes_left : (xs ys : List ℤ) → SomePasses xs → SomePasses (xs ++ ys)
passes_left [] ys h = absurd h
passes_left (x ∷ xs) ys (inl h) = inl h
passes_left (x ∷ xs) ys (inr h) = inr (passes_left xs ys h)

passes_right : (xs ys : List ℤ) → SomePasses ys → SomePasses (xs ++ ys)
passes_right [] ys h = h
passes_right (x ∷ xs) ys h = inr (passes_right xs ys h)

-- The numbers given so far, and what the numbers of the items left make of them.
pub record Sofar (part : Part) (taken : List ℤ) (items left : List (Option ℤ)) (numbers : List ℤ) (from : ℕ) : Type 0 where
  pub earlier : List ℤ
  pub floor : Floor earlier from
  pub fit : SomePasses numbers → ⊥
  pub goes_on : (ns : List ℤ) → Numbered part taken earlier left ns → Numbered part taken [] items (numbers ++ ns)

pub begun : (part : Part) (taken : List ℤ) (items : List (Option ℤ)) → Sofar part taken items items [] 0
begun part taken items = record { earlier = []; floor = floor_start; fit = λ h. h; goes_on = λ ns h. h }

given_is : (taken earlier : List ℤ) (from : ℕ) → Floor earlier from → (item : Option ℤ) (n : ℤ) → IsGiven taken from item (Some n) → IsNumberOf taken earlier item n
given_is taken earlier from f (Some m) n h = cc
given_is taken earlier from f None n h =
    subst (IsNext taken earlier) (sym (fits_some h.0 n (sym h.2))) (next_is taken earlier from h.0 f h.1)

-- A number of 128 bits passes them neither alone nor behind others.
small_is : (n : ℤ) → SFits w128 n → n <ℤ pos (2 ^ 127)
small_is (pos n) h = let low : n < 2 ^ 127 = h.sfits in omega (arith, ints)
small_is (negsuc n) h = omega (arith, ints)

fit_behind : (xs : List ℤ) (n : ℤ) → (SomePasses xs → ⊥) → n <ℤ pos (2 ^ 127) → SomePasses (xs ++ n ∷ []) → ⊥
fit_behind [] n f h (inl p) = omega (arith, ints)
fit_behind [] n f h (inr p) = p
fit_behind (x ∷ xs) n f h (inl p) = f (inl p)
fit_behind (x ∷ xs) n f h (inr p) = fit_behind xs n (λ q. f (inr q)) h p

pub fit_together : (xs ys : List ℤ) → (SomePasses xs → ⊥) → (SomePasses ys → ⊥) → SomePasses (xs ++ ys) → ⊥
fit_together [] ys f g h = g h
fit_together (x ∷ xs) ys f g (inl h) = f (inl h)
fit_together (x ∷ xs) ys f g (inr h) = fit_together xs ys (λ q. f (inr q)) g h

pub stepped : (part : Part) (taken : List ℤ) (items : List (Option ℤ)) (item : Option ℤ) (left : List (Option ℤ)) (numbers : List ℤ) (from : ℕ) (n : ℤ) → Sofar part taken items (item ∷ left) numbers from → IsGiven taken from item (Some n) → SFits w128 n → Sofar part taken items left (numbers ++ n ∷ []) (from_behind part from item n)
stepped part taken items item left numbers from n s g small =
    record {
      earlier = behind part s.earlier item n;
      floor = floor_behind part s.earlier from s.floor item n;
      fit = fit_behind numbers n s.fit (small_is n small);
      goes_on = λ ns h. subst (Numbered part taken [] items) (sym (append_assoc numbers (n ∷ []) ns)) (s.goes_on (n ∷ ns) (given_is taken s.earlier from s.floor item n g, h));
    }

pub stopped : (part : Part) (taken : List ℤ) (items : List (Option ℤ)) (item : Option ℤ) (left : List (Option ℤ)) (numbers : List ℤ) (from : ℕ) → Sofar part taken items (item ∷ left) numbers from → IsGiven taken from item None → Passes part taken items
stopped part taken items (Some m) left numbers from s g = absurd (cc)
stopped part taken items None left numbers from s g =
    let n = g.0 in
    let rest = some_numbers part taken left (behind part s.earlier None (pos n)) (from_behind part from None (pos n)) (floor_behind part s.earlier from s.floor None (pos n)) in
    let great : 2 ^ 127 ≤ n = fits_none n (sym g.2) in
    record {
      numbers = numbers ++ pos n ∷ rest.0;
      are_numbers = s.goes_on (pos n ∷ rest.0) (next_is taken s.earlier from n s.floor g.1, rest.1);
      pass = passes_within numbers (pos n) rest.0 (omega (arith, ints));
    }

pub finished : (part : Part) (taken : List ℤ) (items left : List (Option ℤ)) (numbers : List ℤ) (from : ℕ) → Sofar part taken items left numbers from → left ≡ [] → Numbered part taken [] items numbers
finished part taken items left numbers from s e =
    let done : Numbered part taken s.earlier left [] = subst (λ l. Numbered part taken s.earlier l []) (sym e) tt in
    subst (Numbered part taken [] items) (append-nil numbers) (s.goes_on [] done)

-- What a count over the numbers of 128 bits finds.
pub found : (taken : List ℤ) (from k : ℕ) (z : ℤ) → from ≤ k → ((j : ℕ) → from ≤ j → j < k → has taken (pos j) ≡ true) → if_fits k ≡ Some z → has taken z ≡ false → (n : ℕ) × IsLeastFrom taken from n × (Some z ≡ if_fits n)
found taken from k z low old fits new =
    (k, record { is_from = low; is_new = subst (λ x. has taken x ≡ false) (fits_some k z fits) new; is_least = old }, sym fits)

fits_not : (n : ℕ) → 2 ^ 127 ≤ n → if_fits n ≡ None
fits_not n h = go (nat_lt n (2 ^ 127)) refl
  where
    go : (b : Bool) → nat_lt n (2 ^ 127) ≡ b → ◌≡◌ {A = Option ℤ} (if b then Some (pos n) else None) None
    go true e = absurd (let small : n < 2 ^ 127 = grind (arith, nat_tests) in omega arith)
    go false e = refl

pub passed : (taken : List ℤ) (from k : ℕ) → from ≤ k → ((j : ℕ) → from ≤ j → j < k → has taken (pos j) ≡ true) → if_fits k ≡ None → (n : ℕ) × IsLeastFrom taken from n × (None ≡ if_fits n)
passed taken from k low old fits =
    let great : 2 ^ 127 ≤ k = fits_none k fits in
    let next = seek (bound taken) taken k (omega arith) in (
      next.0,
      record { is_from = (let up = next.1.is_from in omega arith); is_new = next.1.is_new; is_least = λ j a b. at next.0 next.1 j a b (nat_lt j k) refl },
      sym (fits_not next.0 (let up = next.1.is_from in omega arith)),
    )
  where
    at : (n : ℕ) → IsLeastFrom taken k n → (j : ℕ) → from ≤ j → j < n → (b : Bool) → nat_lt j k ≡ b → has taken (pos j) ≡ true
    at n l j a b true t = old j a (grind (arith, nat_tests))
    at n l j a b false t = l.is_least j (grind (arith, nat_tests)) b

pub root_passes : (root additions : List (Option ℤ)) → Passes Root (written root) root → NumbersPass root additions
root_passes root additions p =
    let rest = some_numbers Additions p.numbers additions [] 0 floor_start in
    record {
      numbers = p.numbers ++ rest.0;
      are_numbers = record { of_root = p.numbers; of_additions = rest.0; root_has = p.are_numbers; additions_have = rest.1; together = refl };
      pass = passes_left p.numbers rest.0 p.pass;
    }

pub additions_pass : (root additions : List (Option ℤ)) (of_root : List ℤ) → AreOfRoot root of_root → Passes Additions of_root additions → NumbersPass root additions
additions_pass root additions of_root r p =
    record {
      numbers = of_root ++ p.numbers;
      are_numbers = record { of_root = of_root; of_additions = p.numbers; root_has = r; additions_have = p.are_numbers; together = refl };
      pass = passes_right of_root p.numbers p.pass;
    }
