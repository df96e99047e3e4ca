-- Names that ascend: no name stands at two places, and what a search by halves finds.
use Rattle.std.proofs.Common.{◌≡◌, ℕ, ◌+◌, ◌<◌, ◌≤◌, ◌⊎◌, inl, inr, false, List, [], ◌∷◌, length, map, get_or, sym, ap, ◌∙◌, arith}
use Rattle.std.specs.Cmp.Lexicographic.{slice_cmp}
use Rattle.std.specs.List.Sorted.{IsNonDecreasingBy, IsPartitionPoint}
use Rattle.std.specs.Ordering.{nat_cmp, is_eq, is_lt, ordering_index, ordering_reverse}
use Rattle.std.specs.declared.cmp.Ordering.{Ordering}
use Rattle.std.specs.declared.cmp.Ordering.TheVariants.{Less, Equal, Greater}
use Rattle.std.proofs.lemmas.Bool.{cases_lt}
use Rattle.std.proofs.lemmas.Cmp.{nat_list_cmp_total, tied_itself}
use Rattle.std.proofs.lemmas.List.{get_or-map, length-map}
use Rattle.std.proofs.lemmas.List.Sorted.{searchable_from_sorted}
use Rattle.std.proofs.lemmas.Map.Keys.{Less-from_sorted}
use Rattle.std.proofs.lemmas.Map.Text.{is_eq-slice_cmp}
use Rattle.std.proofs.lemmas.Slice.Eq.{bytes_eq-Decides}
use Rattle.asn_names_graph.specs.Drawn.{Ascend, StandsAt}

-- two texts that are as high are one
pub tied : (a b : List ℕ) → slice_cmp nat_cmp a b ≡ Equal → a ≡ b
tied a b e = (bytes_eq-Decides a b).0 (sym (is_eq-slice_cmp a b) ∙ ap is_eq e)

pub tie : (a b : List ℕ) → a ≡ b → slice_cmp nat_cmp a b ≡ Equal
tie a b e = ap (λ x. slice_cmp nat_cmp a x) (sym e) ∙ tied_itself nat_list_cmp_total a

-- no name stands at two places
pub one_place : (names : List (List ℕ)) (i j : ℕ) → Ascend names → i < length names → j < length names → get_or names i [] ≡ get_or names j [] → i ≡ j
one_place names i j up h k e = go (cases_lt i j) (cases_lt j i)
  where
    apart : (i j : ℕ) → i < j → j < length names → get_or names i [] ≡ get_or names j [] → ⊥
    apart i j l k e =
        let less = Less-from_sorted (slice_cmp nat_cmp) names i j [] up l k in
        let equal = tie (get_or names i []) (get_or names j []) e in
        absurd cc

    go : (i < j) ⊎ (j ≤ i) → (j < i) ⊎ (i ≤ j) → i ≡ j
    go (inl l) m = absurd (apart i j l k e)
    go (inr l) (inl m) = absurd (apart j i m h (sym e))
    go (inr l) (inr m) = omega arith

module _ {X : Type 0} (f : X → List ℕ) (name : List ℕ) where
  -- how the name of an item compares to the name that is looked for
  abbrev Is : Ordering → X → Type 0
  Is o x = slice_cmp nat_cmp (f x) name ≡ o

  -- the name stands where the search found what is as high
  pub found : (xs : List X) (place : ℕ) → place < length xs → ((d : X) → Is Equal (get_or xs place d)) → StandsAt (map f xs) name place
  found [] place h e = absurd (omega arith)
  found (x ∷ xs) place h e = record {
    within = (let l : length (map f (x ∷ xs)) ≡ length (x ∷ xs) = length-map (x ∷ xs) f in omega arith);
    is = get_or-map f (x ∷ xs) place x [] h ∙ tied (f (get_or (x ∷ xs) place x)) name (e x);
  }

  rises : (xs : List X) → Ascend (map f xs) → IsNonDecreasingBy (λ y. ordering_index (slice_cmp nat_cmp (f y) name)) xs
  rises xs up = searchable_from_sorted nat_list_cmp_total f xs name (λ k d _ h. step k d h)
    where
      step : (k : ℕ) (d : X) → k + 1 < length xs → is_lt (slice_cmp nat_cmp (f (get_or xs (k + 1) d)) (f (get_or xs k d))) ≡ false
      step k d h =
          let long : length (map f xs) ≡ length xs = length-map xs f in
          let less = Less-from_sorted (slice_cmp nat_cmp) (map f xs) k (k + 1) (f d) up (omega arith) (omega arith) in
          let here : get_or (map f xs) k (f d) ≡ f (get_or xs k d) = get_or-map f xs k d (f d) (omega arith) in
          let next : get_or (map f xs) (k + 1) (f d) ≡ f (get_or xs (k + 1) d) = get_or-map f xs (k + 1) d (f d) h in
          let below : slice_cmp nat_cmp (f (get_or xs k d)) (f (get_or xs (k + 1) d)) ≡ Less = cc in
          ap is_lt (nat_list_cmp_total.antisymm (f (get_or xs (k + 1) d)) (f (get_or xs k d)) ∙ ap ordering_reverse below)

  -- where the search found nothing as high, the name stands nowhere
  pub absent : (xs : List X) (i : ℕ) → Ascend (map f xs) →
      (IsNonDecreasingBy (λ y. ordering_index (slice_cmp nat_cmp (f y) name)) xs → IsPartitionPoint (Is Less) (Is Greater) xs i) →
      (place : ℕ) → StandsAt (map f xs) name place → ⊥
  absent [] i up parts place s = let h : place < 0 = s.within in absurd (omega arith)
  absent (x ∷ xs) i up parts place s =
      let long : length (map f (x ∷ xs)) ≡ length (x ∷ xs) = length-map (x ∷ xs) f in
      let h : place < length (map f (x ∷ xs)) = s.within in
      let l : place < length (x ∷ xs) = omega arith in
      let same : f (get_or (x ∷ xs) place x) ≡ name = sym (get_or-map f (x ∷ xs) place x [] l) ∙ s.is in
      go l (tie (f (get_or (x ∷ xs) place x)) name same) (parts (rises (x ∷ xs) up)) (cases_lt place i)
    where
      go : place < length (x ∷ xs) → Is Equal (get_or (x ∷ xs) place x) → IsPartitionPoint (Is Less) (Is Greater) (x ∷ xs) i → (place < i) ⊎ (i ≤ place) → ⊥
      go l e p (inl k) = let less = p.0 place x (omega arith) k in absurd cc
      go l e p (inr k) = let greater = p.1 place x k l in absurd cc
