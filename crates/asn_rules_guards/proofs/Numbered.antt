-- The numbers of an enumeration, counted without memory.
use Rattle.std.proofs.Common.{◌≡◌, ℕ, zero, suc, ◌+◌, ◌-◌, ◌^◌, ◌<◌, ◌≤◌, max, ◌⊎◌, inl, inr, List, [], ◌∷◌, Bool, true, false, Option, Some, None, ℤ, pos, refl, sym, ap, ◌∙◌, subst, arith}
use Rattle.std.specs.Prelude.{⊤, nat_eq, nat_lt, ◌||◌, if◌then◌else◌}
use Rattle.std.specs.Ordering.{int_eq}
use Rattle.std.proofs.lemmas.Bool.Decides.{Decides-eqb, Decides-int_eq, Decides-ltb, nat_tests}
use Rattle.std.proofs.lemmas.Int.{ints}
use Rattle.asn_tree_numbers.specs.Enumeration.{written, from_above, if_fits}
use Rattle.asn_rules_guards.specs.inner.Sizes.{is_taken, root_end}
use Rattle.asn_rules_guards.specs.Enumerations.{additions_fit, at_number, behind_item, first_free, fit_behind, given, is_among, least_free, put_before, root_numbers}

-- The least number that is free.

pub least_here : (taken : ℕ → Bool) (n : ℕ) → n < 2 ^ 127 → taken n ≡ false → least_free taken n ≡ n
unfolding least_free
least_here taken n lt e = go (2 ^ 127 - n) refl
  where
    go : (k : ℕ) → 2 ^ 127 - n ≡ k → first_free k taken n ≡ n
    go zero d = absurd (omega (arith, d, lt))
    go (suc k) d = ap (λ t. if t then first_free k taken (suc n) else n) e

pub least_on : (taken : ℕ → Bool) (n : ℕ) → n < 2 ^ 127 → taken n ≡ true → least_free taken n ≡ least_free taken (n + 1)
unfolding least_free
least_on taken n lt e = let next : suc n ≡ n + 1 = omega arith in go (2 ^ 127 - n) refl ∙ ap (λ j. first_free (2 ^ 127 - j) taken j) next
  where
    go : (k : ℕ) → 2 ^ 127 - n ≡ k → first_free k taken n ≡ first_free (2 ^ 127 - suc n) taken (suc n)
    go zero d = absurd (omega (arith, d, lt))
    go (suc k) d =
        let rest : k ≡ 2 ^ 127 - suc n = omega (arith, d, lt) in
        ap (λ t. if t then first_free k taken (suc n) else n) e ∙ ap (λ j. first_free j taken (suc n)) rest

pub least_past : (taken : ℕ → Bool) (n : ℕ) → 2 ^ 127 ≤ n → least_free taken n ≡ n
unfolding least_free
least_past taken n le = let none : 2 ^ 127 - n ≡ 0 = omega (arith, le) in ap (λ k. first_free k taken n) none

-- what is known of it: it is no less, each before it is taken, and where it is of 128 bits it is not
pub record Least (taken : ℕ → Bool) (n l : ℕ) : Type 0 where
  pub from : n ≤ l
  pub before : (j : ℕ) → n ≤ j → j < l → taken j ≡ true
  pub free : l < 2 ^ 127 → taken l ≡ false

least_is : (k : ℕ) (taken : ℕ → Bool) (n : ℕ) → 2 ^ 127 - n ≡ k → Least taken n (first_free k taken n)
least_is zero taken n d = record { from = omega arith; before = λ j a b. absurd (omega (arith, a, b)); free = λ lt. absurd (omega (arith, d, lt)) }
least_is (suc k) taken n d = go (taken n) refl (least_is k taken (suc n) (omega (arith, d)))
  where
    go : (t : Bool) → taken n ≡ t → Least taken (suc n) (first_free k taken (suc n)) → Least taken n (if t then first_free k taken (suc n) else n)
    go true e h =
        record {
          from = (let f = h.from in omega (arith, f));
          before = λ j a b. at j a b (nat_eq n j) refl;
          free = h.free;
        }
      where
        at : (j : ℕ) → n ≤ j → j < first_free k taken (suc n) → (s : Bool) → nat_eq n j ≡ s → taken j ≡ true
        at j a b true s = subst (λ i. taken i ≡ true) ((Decides-eqb n j).0 s) e
        at j a b false s = h.before j (grind (arith, nat_tests, a, s)) b
    go false e h = record { from = omega arith; before = λ j a b. absurd (omega (arith, a, b)); free = λ lt. e }

pub least : (taken : ℕ → Bool) (n : ℕ) → Least taken n (least_free taken n)
unfolding least_free
least taken n = least_is (2 ^ 127 - n) taken n refl

-- Tests that are the same find the same numbers.

module _ (f g : ℕ → Bool) (same : (n : ℕ) → f n ≡ g n) where
  first_same : (k n : ℕ) → first_free k f n ≡ first_free k g n
  first_same zero n = refl
  first_same (suc k) n = ap (λ t. if t then first_free k f (suc n) else n) (same n) ∙ ap (λ r. if g n then r else n) (first_same k (suc n))

  least_same : (n : ℕ) → least_free f n ≡ least_free g n
  unfolding least_free
  least_same n = first_same (2 ^ 127 - n) n

  given_same : (n : ℕ) (item : Option ℤ) → given f n item ≡ given g n item
  given_same n (Some m) = refl
  given_same n None = ap if_fits (least_same n)

  ends_same : (n : ℕ) (items : List (Option ℤ)) → root_end f n items ≡ root_end g n items
  ends_same n [] = refl
  ends_same n (item ∷ items) =
      ap (λ o. at_number o None (λ z. root_end f (behind_item n item z) items)) (given_same n item)
      ∙ go (given g n item) (λ z. ends_same (behind_item n item z) items)
    where
      go : (o : Option ℤ) → ((z : ℤ) → root_end f (behind_item n item z) items ≡ root_end g (behind_item n item z) items) → at_number o None (λ z. root_end f (behind_item n item z) items) ≡ at_number o None (λ z. root_end g (behind_item n item z) items)
      go None h = refl
      go (Some z) h = h z

  fits_same : (n : ℕ) (items : List (Option ℤ)) → additions_fit f n items ≡ additions_fit g n items
  fits_same n [] = refl
  fits_same n (item ∷ items) =
      ap (λ o. at_number o false (λ z. additions_fit f (from_above n z) items)) (given_same n item)
      ∙ go (given g n item) (λ z. fits_same (from_above n z) items)
    where
      go : (o : Option ℤ) → ((z : ℤ) → additions_fit f (from_above n z) items ≡ additions_fit g (from_above n z) items) → at_number o false (λ z. additions_fit f (from_above n z) items) ≡ at_number o false (λ z. additions_fit g (from_above n z) items)
      go None h = refl
      go (Some z) h = h z

-- What the root's items have.

or_left : (a b : Bool) → a ≡ true → (a || b) ≡ true
or_left true b e = refl
or_left false b e = absurd cc

or_right : (a b : Bool) → b ≡ true → (a || b) ≡ true
or_right true b e = refl
or_right false b e = e

or_cases : (a b : Bool) → (a || b) ≡ true → (a ≡ true) ⊎ (b ≡ true)
or_cases true b e = inl refl
or_cases false b e = inr e

-- The numbers that are written, and those from n on that are not, as far as the end.
record Covers (taken : ℕ → Bool) (n : ℕ) (items : List (Option ℤ)) (ns : List ℤ) (end : ℕ) : Type 0 where
  rises : n ≤ end
  given_one : (k : ℕ) → n ≤ k → k < end → taken k ≡ false → is_among ns k ≡ true
  written_one : (k : ℕ) → is_among (written items) k ≡ true → is_among ns k ≡ true
  either : (k : ℕ) → is_among ns k ≡ true → (is_among (written items) k ≡ true) ⊎ (k < end)

abbrev Shape : (ℕ → Bool) → ℕ → List (Option ℤ) → Option (List ℤ) → Option ℕ → Type 0
Shape taken n items None None = ⊤
Shape taken n items None (Some end) = ⊥
Shape taken n items (Some ns) None = ⊥
Shape taken n items (Some ns) (Some end) = Covers taken n items ns end

shape_written : (taken : ℕ → Bool) (n : ℕ) (m : ℤ) (items : List (Option ℤ)) (o : Option (List ℤ)) (e : Option ℕ) → Shape taken n items o e → Shape taken n (Some m ∷ items) (put_before m o) e
shape_written taken n m items None None h = tt
shape_written taken n m items None (Some end) h = absurd h
shape_written taken n m items (Some ns) None h = absurd h
shape_written taken n m items (Some ns) (Some end) h =
    record {
      rises = h.rises;
      given_one = λ k a b c. or_right (int_eq m (pos k)) (is_among ns k) (h.given_one k a b c);
      written_one = λ k w. first k (or_cases (int_eq m (pos k)) (is_among (written items) k) w);
      either = λ k w. second k (or_cases (int_eq m (pos k)) (is_among ns k) w);
    }
  where
    first : (k : ℕ) → (int_eq m (pos k) ≡ true) ⊎ (is_among (written items) k ≡ true) → (int_eq m (pos k) || is_among ns k) ≡ true
    first k (inl e) = or_left (int_eq m (pos k)) (is_among ns k) e
    first k (inr e) = or_right (int_eq m (pos k)) (is_among ns k) (h.written_one k e)

    second : (k : ℕ) → (int_eq m (pos k) ≡ true) ⊎ (is_among ns k ≡ true) → ((int_eq m (pos k) || is_among (written items) k) ≡ true) ⊎ (k < end)
    second k (inl e) = inl (or_left (int_eq m (pos k)) (is_among (written items) k) e)
    second k (inr e) = third (h.either k e)
      where
        third : (is_among (written items) k ≡ true) ⊎ (k < end) → ((int_eq m (pos k) || is_among (written items) k) ≡ true) ⊎ (k < end)
        third (inl w) = inl (or_right (int_eq m (pos k)) (is_among (written items) k) w)
        third (inr lt) = inr lt

shape_given : (taken : ℕ → Bool) (n l : ℕ) (items : List (Option ℤ)) (o : Option (List ℤ)) (e : Option ℕ) → Least taken n l → Shape taken (from_above n (pos l)) items o e → Shape taken n (None ∷ items) (put_before (pos l) o) e
shape_given taken n l items None None s h = tt
shape_given taken n l items None (Some end) s h = absurd h
shape_given taken n l items (Some ns) None s h = absurd h
shape_given taken n l items (Some ns) (Some end) s h =
    record {
      rises = (let a = s.from in let b : max n (l + 1) ≤ end = h.rises in omega (arith, a, b));
      given_one = λ k a b c. first k a b c (nat_eq l k) (nat_lt k l) refl refl;
      written_one = λ k w. or_right (int_eq (pos l) (pos k)) (is_among ns k) (h.written_one k w);
      either = λ k w. second k (or_cases (int_eq (pos l) (pos k)) (is_among ns k) w);
    }
  where
    first : (k : ℕ) → n ≤ k → k < end → taken k ≡ false → (same below : Bool) → nat_eq l k ≡ same → nat_lt k l ≡ below → (int_eq (pos l) (pos k) || is_among ns k) ≡ true
    first k a b c true below e f = or_left (int_eq (pos l) (pos k)) (is_among ns k) ((Decides-int_eq (pos l) (pos k)).1 (ap pos ((Decides-eqb l k).0 e)))
    first k a b c false true e f = absurd (let t = s.before k a ((Decides-ltb k l).0 f) in cc)
    first k a b c false false e f =
        let from = s.from in
        let up : max n (l + 1) ≤ k = grind (arith, nat_tests, e, f, from) in
        or_right (int_eq (pos l) (pos k)) (is_among ns k) (h.given_one k up b c)

    second : (k : ℕ) → (int_eq (pos l) (pos k) ≡ true) ⊎ (is_among ns k ≡ true) → (is_among (written items) k ≡ true) ⊎ (k < end)
    second k (inl e) = let i = (Decides-int_eq (pos l) (pos k)).0 e in let b : max n (l + 1) ≤ end = h.rises in inr (omega (arith, ints, i, b))
    second k (inr e) = h.either k e

fits_or_not : (n : ℕ) → (if_fits n ≡ Some (pos n)) ⊎ ((if_fits n ≡ None) × (2 ^ 127 ≤ n))
fits_or_not n = go (nat_lt n (2 ^ 127)) refl
  where
    go : (b : Bool) → nat_lt n (2 ^ 127) ≡ b → ((if b then Some (pos n) else None) ≡ Some (pos n)) ⊎ (((if b then Some (pos n) else None) ≡ None) × (2 ^ 127 ≤ n))
    go true e = inl refl
    go false e = inr (refl, grind (arith, nat_tests, e))

shape : (taken : ℕ → Bool) (items : List (Option ℤ)) (n : ℕ) → Shape taken n items (root_numbers taken n items) (root_end taken n items)
shape taken [] n = record { rises = omega arith; given_one = λ k a b c. absurd (omega (arith, a, b)); written_one = λ k w. w; either = λ k w. inl w }
shape taken (Some m ∷ items) n = shape_written taken n m items (root_numbers taken n items) (root_end taken n items) (shape taken items n)
shape taken (None ∷ items) n = go (fits_or_not (least_free taken n)) (shape taken items (from_above n (pos (least_free taken n))))
  where
    go : (if_fits (least_free taken n) ≡ Some (pos (least_free taken n))) ⊎ ((if_fits (least_free taken n) ≡ None) × (2 ^ 127 ≤ least_free taken n)) → Shape taken (from_above n (pos (least_free taken n))) items (root_numbers taken (from_above n (pos (least_free taken n))) items) (root_end taken (from_above n (pos (least_free taken n))) items) → Shape taken n (None ∷ items) (at_number (if_fits (least_free taken n)) None (λ z. put_before z (root_numbers taken (from_above n z) items))) (at_number (if_fits (least_free taken n)) None (λ z. root_end taken (from_above n z) items))
    go (inl e) h = subst (λ o. Shape taken n (None ∷ items) (at_number o None (λ z. put_before z (root_numbers taken (from_above n z) items))) (at_number o None (λ z. root_end taken (from_above n z) items))) (sym e) (shape_given taken n (least_free taken n) items (root_numbers taken (from_above n (pos (least_free taken n))) items) (root_end taken (from_above n (pos (least_free taken n))) items) (least taken n) h)
    go (inr e) h = subst (λ o. Shape taken n (None ∷ items) (at_number o None (λ z. put_before z (root_numbers taken (from_above n z) items))) (at_number o None (λ z. root_end taken (from_above n z) items))) (sym e.0) tt

-- A number is one of the root's where it is below the end, or written.
covered : (root : List (Option ℤ)) (ns : List ℤ) (end : ℕ) → Covers (is_among (written root)) 0 root ns end → (k : ℕ) → is_taken root end k ≡ is_among ns k
covered root ns end h k = go (is_among (written root) k) (nat_lt k end) (is_among ns k) refl refl refl
  where
    go : (w b a : Bool) → is_among (written root) k ≡ w → nat_lt k end ≡ b → is_among ns k ≡ a → (nat_lt k end || is_among (written root) k) ≡ is_among ns k
    go true b a ew eb ea = or_right (nat_lt k end) (is_among (written root) k) ew ∙ sym (h.written_one k ew)
    go false true a ew eb ea = or_left (nat_lt k end) (is_among (written root) k) eb ∙ sym (h.given_one k (omega arith) ((Decides-ltb k end).0 eb) ew)
    go false false true ew eb ea = absurd (no (h.either k ea))
      where
        no : (is_among (written root) k ≡ true) ⊎ (k < end) → ⊥
        no (inl w) = cc
        no (inr lt) = let t = (Decides-ltb k end).1 lt in cc
    go false false false ew eb ea = ap (λ t. t || is_among (written root) k) eb ∙ ew ∙ sym ea

-- The short way.

abbrev pub short_way : Option ℕ → List (Option ℤ) → List (Option ℤ) → Bool
short_way None root added = false
short_way (Some end) root added = additions_fit (is_taken root end) 0 added

none_below : (root : List (Option ℤ)) (k : ℕ) → is_taken root 0 k ≡ is_among (written root) k
none_below root k = ap (λ t. t || is_among (written root) k) (go (nat_lt k 0) (Decides-ltb k 0).0)
  where
    go : (b : Bool) → (b ≡ true → k < 0) → b ≡ false
    go true d = absurd (let lt = d refl in omega (arith, lt))
    go false d = refl

pub by_short_way : (root added : List (Option ℤ)) → short_way (root_end (is_taken root 0) 0 root) root added ≡ fit_behind (root_numbers (is_among (written root)) 0 root) added
by_short_way root added =
    ap (λ e. short_way e root added) (ends_same (is_taken root 0) (is_among (written root)) (none_below root) 0 root)
    ∙ go (root_numbers (is_among (written root)) 0 root) (root_end (is_among (written root)) 0 root) (shape (is_among (written root)) root 0)
  where
    go : (o : Option (List ℤ)) (e : Option ℕ) → Shape (is_among (written root)) 0 root o e → short_way e root added ≡ fit_behind o added
    go None None h = refl
    go None (Some end) h = absurd h
    go (Some ns) None h = absurd h
    go (Some ns) (Some end) h = fits_same (is_taken root end) (is_among ns) (covered root ns end h) 0 added
