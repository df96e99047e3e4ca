-- Two lists of warnings in order that have the same warnings are one list.
use Rattle.std.proofs.Common.{◌≡◌, ◌⊎◌, inl, inr, ℕ, zero, suc, List, [], ◌∷◌, Option, Some, None, refl, sym, ap, ◌∙◌, subst, arith}
use Rattle.std.specs.Cmp.Lexicographic.{slice_cmp}
use Rattle.std.specs.List.{AllPairs, Contains}
use Rattle.std.specs.Ordering.{nat_cmp}
use Rattle.std.specs.declared.cmp.Ordering.TheVariants.{Less}
use Rattle.std.proofs.lemmas.Cmp.{nat_list_cmp_total}
use Rattle.asn_check.specs.Warnings.{Linkedness, Warning, IsBelow, Precedes, AreWarnings}
use Rattle.asn_names.specs.Definitions.{Definitions}

module _ {X : Type 0} (R : X → X → Type 0) (one_way : (x y : X) → R x y → R y x → ⊥) where
  first_or_later : (y : X) (ys : List X) (w : X) → Contains (y ∷ ys) w → (y ≡ w) ⊎ Contains ys w
  first_or_later y ys w (zero, lt, e) = inl e
  first_or_later y ys w (suc k, lt, e) = inr (k, omega arith, e)

  later : (y : X) (ys : List X) (w : X) → Contains ys w → Contains (y ∷ ys) w
  later y ys w (k, lt, e) = (suc k, omega arith, e)

  -- what stands behind the first comes after it
  behind : (x : X) (xs : List X) → AllPairs R (x ∷ xs) → (w : X) → Contains xs w → R x w
  behind x xs pairs w (k, lt, e) = subst (R x) e (pairs 0 (suc k) w (omega arith) (omega arith))

  no_first_behind : (x : X) (xs : List X) → AllPairs R (x ∷ xs) → Contains xs x → ⊥
  no_first_behind x xs pairs c = one_way x x (behind x xs pairs x c) (behind x xs pairs x c)

  same_first : (x y : X) (xs ys : List X) → AllPairs R (x ∷ xs) → AllPairs R (y ∷ ys) → (y ≡ x) ⊎ Contains ys x → (x ≡ y) ⊎ Contains xs y → x ≡ y
  same_first x y xs ys p q (inl e) d = sym e
  same_first x y xs ys p q (inr c) (inl e) = e
  same_first x y xs ys p q (inr c) (inr d) = absurd (one_way x y (behind x xs p y d) (behind y ys q x c))

  pub only_order : (xs ys : List X) → AllPairs R xs → AllPairs R ys → ((w : X) → Contains xs w → Contains ys w) → ((w : X) → Contains ys w → Contains xs w) → xs ≡ ys
  only_order [] [] p q f g = refl
  only_order [] (y ∷ ys) p q f g = let c = g y (0, omega arith, refl) in absurd (omega (arith, c.1))
  only_order (x ∷ xs) [] p q f g = let c = f x (0, omega arith, refl) in absurd (omega (arith, c.1))
  only_order (x ∷ xs) (y ∷ ys) p q f g =
      let is : x ≡ y = same_first x y xs ys p q (first_or_later y ys x (f x (0, omega arith, refl))) (first_or_later x xs y (g y (0, omega arith, refl))) in
      let rest =
      only_order xs ys (λ i j d lt within. p (suc i) (suc j) d (omega arith) (omega arith)) (λ i j d lt within. q (suc i) (suc j) d (omega arith) (omega arith))
      (λ w c. front w c (first_or_later y ys w (f w (later x xs w c))) is)
      (λ w c. back w c (first_or_later x xs w (g w (later y ys w c))) is) in
      ap (λ z. z ∷ xs) is ∙ ap (λ zs. y ∷ zs) rest
    where
      front : (w : X) → Contains xs w → (y ≡ w) ⊎ Contains ys w → x ≡ y → Contains ys w
      front w c (inr d) is = d
      front w c (inl e) is = absurd (no_first_behind x xs p (subst (Contains xs) (sym (is ∙ e)) c))

      back : (w : X) → Contains ys w → (x ≡ w) ⊎ Contains xs w → x ≡ y → Contains xs w
      back w c (inr d) is = d
      back w c (inl e) is = absurd (no_first_behind y ys q (subst (Contains ys) (sym (sym is ∙ e)) c))

-- ---- warnings

not_both_below : (x y : List ℕ) → slice_cmp nat_cmp x y ≡ Less → slice_cmp nat_cmp y x ≡ Less → ⊥
not_both_below x y p q = let turned = nat_list_cmp_total.antisymm x y in let bad = sym p ∙ rw q at turned in absurd cc

below_one_way : (a b : Option (List ℕ)) → IsBelow a b → IsBelow b a → ⊥
below_one_way (Some x) (Some y) p q = not_both_below x y p q
below_one_way (Some x) None p q = absurd p
below_one_way None b p q = absurd p

below_itself : (a b : Option (List ℕ)) → a ≡ b → IsBelow a b → ⊥
below_itself a b e p = let itself = subst (IsBelow a) (sym e) p in below_one_way a a itself itself

precedes_one_way : (v w : Warning) → Precedes v w → Precedes w v → ⊥
precedes_one_way v w (inl p) (inl q) = below_one_way v.name w.name p q
precedes_one_way v w (inl p) (inr q) = below_itself v.name w.name (sym q.0) p
precedes_one_way v w (inr p) (inl q) = below_itself w.name v.name (sym p.0) q
precedes_one_way v w (inr p) (inr q) = p.1 q.2

pub one_list : (defs : Definitions) (linked : Linkedness) (ws vs : List Warning) → AreWarnings defs linked ws → AreWarnings defs linked vs → ws ≡ vs
one_list defs linked ws vs a b = only_order Precedes precedes_one_way ws vs a.ordered b.ordered (λ w c. (b.exact w).1 ((a.exact w).0 c)) (λ w c. (a.exact w).1 ((b.exact w).0 c))
