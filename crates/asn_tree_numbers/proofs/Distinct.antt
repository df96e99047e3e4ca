-- The numbers of an enumeration are determined, and distinct where the standard asks that they be.
use Rattle.std.proofs.Common.{◌≡◌, ◌⊎◌, inl, inr, ℤ, ◌≤ℤ◌, ◌<ℤ◌, Bool, true, false, ◌||◌, List, [], ◌∷◌, ◌++◌, Option, Some, None, refl, ap, sym, ◌∙◌, subst, arith}
use Rattle.std.specs.Ordering.{int_eq}
use Rattle.std.proofs.lemmas.Bool.Decides.{Decides-int_eq}
use Rattle.std.proofs.lemmas.Int.{ints}
use Rattle.asn_tree_numbers.specs.declared.enumeration.Part.{Part}
use Rattle.asn_tree_numbers.specs.declared.enumeration.Part.TheVariants.{Root, Additions}
use Rattle.asn_tree_numbers.specs.Enumeration.{has, written, IsAbove, IsNumberOf, behind, Numbered, AreOfAdditions, AreNumbers, SomePasses, NumbersPass}
use Rattle.asn_tree_numbers.specs.Laws.{NumbersAreOne, AreDistinct, Rise, NumbersAreDistinct}

same_number : (taken earlier : List ℤ) (item : Option ℤ) (m n : ℤ) → IsNumberOf taken earlier item m → IsNumberOf taken earlier item n → m ≡ n
same_number taken earlier (Some k) m n p q = cc
same_number taken earlier None m n p q =
    let a : m ≤ℤ n = p.is_least n q.is_free in
    let b : n ≤ℤ m = q.is_least m p.is_free in
    omega (arith, ints)

same_numbers : (part : Part) (taken earlier : List ℤ) (items : List (Option ℤ)) (xs ys : List ℤ) → Numbered part taken earlier items xs → Numbered part taken earlier items ys → xs ≡ ys
same_numbers part taken earlier [] [] [] p q = refl
same_numbers part taken earlier [] [] (y ∷ ys) p q = absurd q
same_numbers part taken earlier [] (x ∷ xs) ys p q = absurd p
same_numbers part taken earlier (item ∷ items) [] ys p q = absurd p
same_numbers part taken earlier (item ∷ items) (x ∷ xs) [] p q = absurd q
same_numbers part taken earlier (item ∷ items) (x ∷ xs) (y ∷ ys) p q =
    let e : y ≡ x = same_number taken earlier item y x q.0 p.0 in
    let r = subst (λ n. Numbered part taken (behind part earlier item n) items ys) e q.1 in
    let t : xs ≡ ys = same_numbers part taken (behind part earlier item x) items xs ys p.1 r in
    cc

one : (root additions : List (Option ℤ)) (xs ys : List ℤ) → AreNumbers root additions xs → AreNumbers root additions ys → xs ≡ ys
one root additions xs ys p q =
    let e : q.of_root ≡ p.of_root = same_numbers Root (written root) [] root q.of_root p.of_root q.root_has p.root_has in
    let r = subst (λ of_root. AreOfAdditions of_root additions q.of_additions) e q.additions_have in
    let f : p.of_additions ≡ q.of_additions = same_numbers Additions p.of_root [] additions p.of_additions q.of_additions p.additions_have r in
    let g = p.together in
    let h = q.together in
    cc

pub are_one : NumbersAreOne
are_one =
    record {
      one = one;
      or_pass = λ root additions xs p a. subst SomePasses (one root additions p.numbers xs p.are_numbers a) p.pass;
    }

-- So where they all fit, none passes.
pub none_pass : (root additions : List (Option ℤ)) (xs : List ℤ) → AreNumbers root additions xs → (SomePasses xs → ⊥) → NumbersPass root additions → ⊥
none_pass root additions xs a fit p = fit (are_one.or_pass root additions xs p a)

has_cases : (x : ℤ) (xs : List ℤ) (k : ℤ) → has (x ∷ xs) k ≡ true → (x ≡ k) ⊎ (has xs k ≡ true)
has_cases x xs k h = go (int_eq x k) (Decides-int_eq x k).0 h
  where
    go : (b : Bool) → (b ≡ true → x ≡ k) → (b || has xs k) ≡ true → (x ≡ k) ⊎ (has xs k ≡ true)
    go true d e = inl (d refl)
    go false d e = inr e

has_first : (x : ℤ) (xs : List ℤ) → has (x ∷ xs) x ≡ true
has_first x xs = ap (λ b. b || has xs x) ((Decides-int_eq x x).1 refl)

has_more : (x : ℤ) (xs : List ℤ) (k : ℤ) → has xs k ≡ true → has (x ∷ xs) k ≡ true
has_more x xs k h = go (int_eq x k)
  where
    go : (b : Bool) → (b || has xs k) ≡ true
    go true = refl
    go false = h

has_not : (xs : List ℤ) (k : ℤ) → (has xs k ≡ true → ⊥) → has xs k ≡ false
has_not xs k h = go (has xs k) h
  where
    go : (b : Bool) → (b ≡ true → ⊥) → b ≡ false
    go true f = absurd (f refl)
    go false f = refl

-- A number of the root's is written, or is not and stands above the earlier ones.
of_root_is : (taken earlier : List ℤ) (items : List (Option ℤ)) (ns : List ℤ) → Numbered Root taken earlier items ns → (k : ℤ) → has ns k ≡ true → (has (written items) k ≡ true) ⊎ ((has taken k ≡ false) × IsAbove earlier k)
of_root_is taken earlier [] [] p k h = absurd (cc)
of_root_is taken earlier [] (n ∷ ns) p k h = absurd p
of_root_is taken earlier (item ∷ items) [] p k h = absurd p
of_root_is taken earlier (Some m ∷ items) (n ∷ ns) p k h = go (λ r. of_root_is taken earlier items ns p.1 k r) (has_cases n ns k h)
  where
    after : (has (written items) k ≡ true) ⊎ ((has taken k ≡ false) × IsAbove earlier k) → (has (m ∷ written items) k ≡ true) ⊎ ((has taken k ≡ false) × IsAbove earlier k)
    after (inl a) = inl (has_more m (written items) k a)
    after (inr b) = inr b

    go : (has ns k ≡ true → (has (written items) k ≡ true) ⊎ ((has taken k ≡ false) × IsAbove earlier k)) → (n ≡ k) ⊎ (has ns k ≡ true) → (has (m ∷ written items) k ≡ true) ⊎ ((has taken k ≡ false) × IsAbove earlier k)
    go f (inl e) = inl (subst (λ x. has (m ∷ written items) x ≡ true) (sym p.0 ∙ e) (has_first m (written items)))
    go f (inr r) = after (f r)
of_root_is taken earlier (None ∷ items) (n ∷ ns) p k h = go (λ r. of_root_is taken (n ∷ earlier) items ns p.1 k r) (has_cases n ns k h)
  where
    after : (has (written items) k ≡ true) ⊎ ((has taken k ≡ false) × IsAbove (n ∷ earlier) k) → (has (written items) k ≡ true) ⊎ ((has taken k ≡ false) × IsAbove earlier k)
    after (inl a) = inl a
    after (inr b) = inr (b.0, b.1.1)

    go : (has ns k ≡ true → (has (written items) k ≡ true) ⊎ ((has taken k ≡ false) × IsAbove (n ∷ earlier) k)) → (n ≡ k) ⊎ (has ns k ≡ true) → (has (written items) k ≡ true) ⊎ ((has taken k ≡ false) × IsAbove earlier k)
    go f (inl e) = inr (subst (λ x. (has taken x ≡ false) × IsAbove earlier x) e (p.0.is_free.is_new, p.0.is_free.is_above))
    go f (inr r) = after (f r)

root_distinct : (taken earlier : List ℤ) (items : List (Option ℤ)) (ns : List ℤ) → Numbered Root taken earlier items ns → ((k : ℤ) → has (written items) k ≡ true → has taken k ≡ true) → AreDistinct (written items) → AreDistinct ns
root_distinct taken earlier [] [] p within d = tt
root_distinct taken earlier [] (n ∷ ns) p within d = absurd p
root_distinct taken earlier (item ∷ items) [] p within d = absurd p
root_distinct taken earlier (Some m ∷ items) (n ∷ ns) p within d =
    (has_not ns n (λ h. no_more (of_root_is taken earlier items ns p.1 n h)), root_distinct taken earlier items ns p.1 (λ k h. within k (has_more m (written items) k h)) d.1)
  where
    no_more : (has (written items) n ≡ true) ⊎ ((has taken n ≡ false) × IsAbove earlier n) → ⊥
    no_more (inl a) =
        let b : has (written items) m ≡ true = subst (λ x. has (written items) x ≡ true) p.0 a in
        let c : has (written items) m ≡ false = d.0 in
        cc
    no_more (inr b) =
        let a : has taken m ≡ true = within m (has_first m (written items)) in
        let c : has taken m ≡ false = subst (λ x. has taken x ≡ false) p.0 b.0 in
        cc
root_distinct taken earlier (None ∷ items) (n ∷ ns) p within d =
    (has_not ns n (λ h. no_more (of_root_is taken (n ∷ earlier) items ns p.1 n h)), root_distinct taken (n ∷ earlier) items ns p.1 within d)
  where
    no_more : (has (written items) n ≡ true) ⊎ ((has taken n ≡ false) × IsAbove (n ∷ earlier) n) → ⊥
    no_more (inl a) =
        let b : has taken n ≡ true = within n a in
        let c : has taken n ≡ false = p.0.is_free.is_new in
        cc
    no_more (inr b) = let c : n <ℤ n = b.1.0 in omega (arith, ints)

-- A number of an addition is none of the root's, and above those of the additions before.
of_additions_are : (taken earlier : List ℤ) (items : List (Option ℤ)) (ns : List ℤ) → Numbered Additions taken earlier items ns → Rise taken earlier items ns → (k : ℤ) → has ns k ≡ true → (has taken k ≡ false) × IsAbove earlier k
of_additions_are taken earlier [] [] p r k h = absurd (cc)
of_additions_are taken earlier [] (n ∷ ns) p r k h = absurd p
of_additions_are taken earlier (item ∷ items) [] p r k h = absurd p
of_additions_are taken earlier (Some m ∷ items) (n ∷ ns) p r k h = go (λ t. of_additions_are taken (n ∷ earlier) items ns p.1 r.2 k t) (has_cases n ns k h)
  where
    go : (has ns k ≡ true → (has taken k ≡ false) × IsAbove (n ∷ earlier) k) → (n ≡ k) ⊎ (has ns k ≡ true) → (has taken k ≡ false) × IsAbove earlier k
    go f (inl e) = subst (λ x. (has taken x ≡ false) × IsAbove earlier x) e (r.0, r.1)
    go f (inr t) = ((f t).0, (f t).1.1)
of_additions_are taken earlier (None ∷ items) (n ∷ ns) p r k h = go (λ t. of_additions_are taken (n ∷ earlier) items ns p.1 r k t) (has_cases n ns k h)
  where
    go : (has ns k ≡ true → (has taken k ≡ false) × IsAbove (n ∷ earlier) k) → (n ≡ k) ⊎ (has ns k ≡ true) → (has taken k ≡ false) × IsAbove earlier k
    go f (inl e) = subst (λ x. (has taken x ≡ false) × IsAbove earlier x) e (p.0.is_free.is_new, p.0.is_free.is_above)
    go f (inr t) = ((f t).0, (f t).1.1)

above_itself : (n : ℤ) → n <ℤ n → ⊥
above_itself n h = omega (arith, ints)

additions_distinct : (taken earlier : List ℤ) (items : List (Option ℤ)) (ns : List ℤ) → Numbered Additions taken earlier items ns → Rise taken earlier items ns → AreDistinct ns
additions_distinct taken earlier [] [] p r = tt
additions_distinct taken earlier [] (n ∷ ns) p r = absurd p
additions_distinct taken earlier (item ∷ items) [] p r = absurd p
additions_distinct taken earlier (Some m ∷ items) (n ∷ ns) p r =
    (has_not ns n (λ h. above_itself n (of_additions_are taken (n ∷ earlier) items ns p.1 r.2 n h).1.0), additions_distinct taken (n ∷ earlier) items ns p.1 r.2)
additions_distinct taken earlier (None ∷ items) (n ∷ ns) p r =
    (has_not ns n (λ h. above_itself n (of_additions_are taken (n ∷ earlier) items ns p.1 r n h).1.0), additions_distinct taken (n ∷ earlier) items ns p.1 r)

has_append : (xs ys : List ℤ) (k : ℤ) → has (xs ++ ys) k ≡ true → (has xs k ≡ true) ⊎ (has ys k ≡ true)
has_append [] ys k h = inr h
has_append (x ∷ xs) ys k h = go (λ t. has_append xs ys k t) (has_cases x (xs ++ ys) k h)
  where
    after : (has xs k ≡ true) ⊎ (has ys k ≡ true) → (has (x ∷ xs) k ≡ true) ⊎ (has ys k ≡ true)
    after (inl a) = inl (has_more x xs k a)
    after (inr b) = inr b

    go : (has (xs ++ ys) k ≡ true → (has xs k ≡ true) ⊎ (has ys k ≡ true)) → (x ≡ k) ⊎ (has (xs ++ ys) k ≡ true) → (has (x ∷ xs) k ≡ true) ⊎ (has ys k ≡ true)
    go f (inl e) = inl (subst (λ z. has (x ∷ xs) z ≡ true) e (has_first x xs))
    go f (inr t) = after (f t)

together : (xs ys : List ℤ) → AreDistinct xs → AreDistinct ys → ((k : ℤ) → has ys k ≡ true → has xs k ≡ false) → AreDistinct (xs ++ ys)
together [] ys p q apart = q
together (x ∷ xs) ys p q apart =
    (has_not (xs ++ ys) x (λ h. no_more (has_append xs ys x h)), together xs ys p.1 q (λ k h. has_not xs k (λ t. clash k t h)))
  where
    clash : (k : ℤ) → has xs k ≡ true → has ys k ≡ true → ⊥
    clash k t h =
        let a : has (x ∷ xs) k ≡ true = has_more x xs k t in
        let b : has (x ∷ xs) k ≡ false = apart k h in
        let c : true ≡ false = sym a ∙ b in
        cc

    no_more : (has xs x ≡ true) ⊎ (has ys x ≡ true) → ⊥
    no_more (inl t) = let b : has xs x ≡ false = p.0 in cc
    no_more (inr t) =
        let a : has (x ∷ xs) x ≡ true = has_first x xs in
        let b : has (x ∷ xs) x ≡ false = apart x t in
        let c : true ≡ false = sym a ∙ b in
        cc

pub are_distinct : NumbersAreDistinct
are_distinct root additions of_root of_additions p q d r =
    together of_root of_additions (root_distinct (written root) [] root of_root p (λ k h. h) d) (additions_distinct of_root [] additions of_additions q r) (λ k h. (of_additions_are of_root [] additions of_additions q r k h).0)
