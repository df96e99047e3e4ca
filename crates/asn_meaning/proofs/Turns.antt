-- The sets of whole numbers that are found turn at their turns alone, so that a mark leaves out what it should.
use Rattle.std.proofs.Common.{◌≡◌, ℕ, zero, suc, ℤ, ◌<ℤ◌, ◌≤ℤ◌, ◌⊎◌, ◌↔◌, inl, inr, Bool, true, false, not, ◌&&◌, ◌||◌, List, [], ◌∷◌, ◌++◌, Option, Some, None, refl, sym, subst, ap, ◌∙◌, arith}
use Rattle.std.proofs.lemmas.Int.{ints}
use Rattle.std.specs.List.{list_any}
use Rattle.std.specs.Prelude.{int_lt, if◌then◌else◌}
use Rattle.asn_tree.specs.declared.constraints.Constraint.{Constraint, Constraint-F, out-Constraint}
use Rattle.asn_tree.specs.declared.constraints.SubtypeElement.{SubtypeElement-F, out-SubtypeElement}
use Rattle.asn_tree.specs.declared.values.ASN1Value.{ASN1Value}
use Rattle.asn_meaning.specs.Answers.{Answer, Yes, No, Unknown, once, unless_all, Denotation, Denoted, Nothing, Unsure}
use Rattle.asn_meaning.specs.Definitions.{Definitions}
use Rattle.asn_meaning.specs.Judge.{nothing_known, step, meaning}
use Rattle.asn_meaning.specs.Kinds.{Kind, IntegerKind, kind_of}
use Rattle.asn_meaning.specs.Layers.{ConstraintLayer, ElementLayer}
use Rattle.asn_meaning.specs.Meaning.{Meaning, ValuesOf}
use Rattle.asn_meaning.specs.Names.{Lead, IsHead, LeadsTo, IsLost, lead}
use Rattle.asn_meaning.specs.Numbers.{Chain, Joining, ranked, Numbers, every_number, one_number, numbers_from, numbers_to, in_both, in_either, in_first, before, behind, around, has_below, has_above, above_least, below_greatest, lifted, number_sets}
use Rattle.asn_meaning.specs.Ranges.{beside, parent_end, from_low, up_to_high, number_of_tree, number_denoted, numbers_at_element, is_free, narrowed_at, narrowed, narrowed_by_all, all_constraints, numbers_at_head, numbers_from_lead, numbers_before}
use Rattle.asn_meaning.specs.Scopes.{Scope, Place}
use Rattle.asn_meaning.specs.ValueTrees.{ValueTree, WholeNumber}
use Rattle.asn_meaning.proofs.Bounds.{Clear, TurnsAlone, below_found, above_found}
use Rattle.asn_meaning.proofs.Chains.{Keeps, ranked_kept}

first_clear : (a b : List ℤ) (i j : ℤ) → Clear (a ++ b) i j → Clear a i j
first_clear [] b i j c = tt
first_clear (k ∷ a) b i j c = (c.0, first_clear a b i j c.1)

second_clear : (a b : List ℤ) (i j : ℤ) → Clear (a ++ b) i j → Clear b i j
second_clear [] b i j c = c
second_clear (k ∷ a) b i j c = second_clear a b i j c.1

both_turn : (f : Bool → Bool → Bool) (a b : Numbers) → TurnsAlone a → TurnsAlone b → (i j : ℤ) → i ≤ℤ j → Clear (a.turns ++ b.turns) i j → f (a.has i) (b.has i) ≡ f (a.has j) (b.has j)
both_turn f a b p q i j h c = ap (λ z. f z (b.has i)) (p i j h (first_clear a.turns b.turns i j c)) ∙ ap (f (a.has j)) (q i j h (second_clear a.turns b.turns i j c))

one_turns : (k : ℤ) → TurnsAlone (one_number k)
one_turns k i j h c = elim c.0 [ inl a ↦ grind (arith, ints) | inr b ↦ grind (arith, ints) ]

from_turns : (b : Bool) (k : ℤ) → TurnsAlone (numbers_from b k)
from_turns true k i j h c = elim c.0 [ inl a ↦ grind (arith, ints) | inr b ↦ grind (arith, ints) ]
from_turns false k i j h c = elim c.0 [ inl a ↦ grind (arith, ints) | inr b ↦ grind (arith, ints) ]

to_turns : (b : Bool) (k : ℤ) → TurnsAlone (numbers_to b k)
to_turns true k i j h c = elim c.0 [ inl a ↦ grind (arith, ints) | inr b ↦ grind (arith, ints) ]
to_turns false k i j h c = elim c.0 [ inl a ↦ grind (arith, ints) | inr b ↦ grind (arith, ints) ]

-- ---- numbers below and above

one_of : (P : ℤ → Bool) (x : ℤ) (xs : List ℤ) (b : Bool) → P x ≡ b → (b || list_any P xs) ≡ true → (list_any P xs ≡ true → (y : ℤ) × (P y ≡ true)) → (y : ℤ) × (P y ≡ true)
one_of P x xs true is f others = (x, is)
one_of P x xs false is f others = others f

any_of : (P : ℤ → Bool) (xs : List ℤ) → list_any P xs ≡ true → (x : ℤ) × (P x ≡ true)
any_of P [] e = absurd cc
any_of P (x ∷ xs) e = one_of P x xs (P x) refl e (any_of P xs)

pub below_is : (s : Numbers) (i : ℤ) → has_below s i ≡ true → (j : ℤ) × (j <ℤ i) × (s.has j ≡ true)
below_is s i e = let f = any_of (λ k. int_lt k i && s.has k) (before i ∷ around s.turns) e in (f.0, part f.0 (s.has f.0) f.1, other (int_lt f.0 i) (s.has f.0) f.1)
  where
    part : (k : ℤ) (b : Bool) → (int_lt k i && b) ≡ true → k <ℤ i
    part k b g = grind (arith, ints)

    other : (a b : Bool) → (a && b) ≡ true → b ≡ true
    other true b g = g
    other false b g = absurd cc

pub above_is : (s : Numbers) (i : ℤ) → has_above s i ≡ true → (j : ℤ) × (i <ℤ j) × (s.has j ≡ true)
above_is s i e = let f = any_of (λ k. int_lt i k && s.has k) (behind i ∷ around s.turns) e in (f.0, part f.0 (s.has f.0) f.1, other (int_lt i f.0) (s.has f.0) f.1)
  where
    part : (k : ℤ) (b : Bool) → (int_lt i k && b) ≡ true → i <ℤ k
    part k b g = grind (arith, ints)

    other : (a b : Bool) → (a && b) ≡ true → b ≡ true
    other true b g = g
    other false b g = absurd cc

alike : (a b : Bool) → (a ≡ true → b ≡ true) → (b ≡ true → a ≡ true) → a ≡ b
alike true b f g = sym (f refl)
alike false true f g = g refl
alike false false f g = refl

split : (a b : ℤ) → a ≤ℤ b ⊎ b <ℤ a
split a b = grind (arith, ints)

-- with its neighbours, no turn lies between one before and one before
lower_clear : (ks : List ℤ) (i j k : ℤ) → k <ℤ j → Clear (around ks) i j → Clear ks (before i) k
lower_clear [] i j k h c = tt
lower_clear (x ∷ ks) i j k h c = (near c.0 c.1.0 c.1.1.0, lower_clear ks i j k h c.1.1.1)
  where
    near : before x <ℤ i ⊎ j <ℤ before x → x <ℤ i ⊎ j <ℤ x → behind x <ℤ i ⊎ j <ℤ behind x → x <ℤ before i ⊎ k <ℤ x
    near p q (inl r) = inl (omega (arith, ints))
    near p (inl q) (inr r) = inr (omega (arith, ints))
    near p (inr q) (inr r) = inr (omega (arith, ints))

upper_clear : (ks : List ℤ) (i j k : ℤ) → i <ℤ k → Clear (around ks) i j → Clear ks k (behind j)
upper_clear [] i j k h c = tt
upper_clear (x ∷ ks) i j k h c = (near c.0 c.1.0 c.1.1.0, upper_clear ks i j k h c.1.1.1)
  where
    near : before x <ℤ i ⊎ j <ℤ before x → x <ℤ i ⊎ j <ℤ x → behind x <ℤ i ⊎ j <ℤ behind x → x <ℤ k ⊎ behind j <ℤ x
    near (inr p) q r = inr (omega (arith, ints))
    near (inl p) (inl q) r = inl (omega (arith, ints))
    near (inl p) (inr q) r = inl (omega (arith, ints))

least_turns : (s : Numbers) → TurnsAlone s → TurnsAlone (above_least s)
least_turns s t i j h c = alike (has_below s i) (has_below s j)
    (λ e. let f = below_is s i e in below_found s j f.0 t (omega (arith, ints, f.1)) f.2)
    (λ e. let f = below_is s j e in back f.0 f.1 f.2)
  where
    back : (k : ℤ) → k <ℤ j → s.has k ≡ true → has_below s i ≡ true
    back k g e = elim (split i k) [
      | inl a ↦ below_found s i (before i) t (omega (arith, ints)) (t (before i) k (omega (arith, ints)) (lower_clear s.turns i j k g c) ∙ e)
      | inr a ↦ below_found s i k t a e
    ]

greatest_turns : (s : Numbers) → TurnsAlone s → TurnsAlone (below_greatest s)
greatest_turns s t i j h c = alike (has_above s i) (has_above s j)
    (λ e. let f = above_is s i e in forth f.0 f.1 f.2)
    (λ e. let f = above_is s j e in above_found s i f.0 t (omega (arith, ints, f.1)) f.2)
  where
    forth : (k : ℤ) → i <ℤ k → s.has k ≡ true → has_above s j ≡ true
    forth k g e = elim (split k j) [
      | inl a ↦ above_found s j (behind j) t (omega (arith, ints)) (sym (t k (behind j) (omega (arith, ints)) (upper_clear s.turns i j k g c)) ∙ e)
      | inr a ↦ above_found s j k t a e
    ]

-- ---- all sets that are found

abbrev pub AllTurn : Option Numbers → Type 0
AllTurn None = Unit {0}
AllTurn (Some s) = TurnsAlone s

lifted_turns : (f : Bool → Bool → Bool) (g : Numbers → Numbers → Numbers) → ((a b : Numbers) → g a b ≡ record { has = λ i. f (a.has i) (b.has i); turns = a.turns ++ b.turns }) → (x y : Option Numbers) → AllTurn x → AllTurn y → AllTurn (lifted g x y)
lifted_turns f g is None y p q = tt
lifted_turns f g is (Some a) None p q = tt
lifted_turns f g is (Some a) (Some b) p q = subst TurnsAlone (sym (is a b)) (both_turn f a b p q)

both_turns : (x y : Option Numbers) → AllTurn x → AllTurn y → AllTurn (lifted in_both x y)
both_turns = lifted_turns (λ u v. u && v) in_both (λ a b. refl)

nowhere : Joining (Unit {0})
nowhere = record { common = λ a b. tt; joined = λ a b. tt; without = λ a b. tt; empty = tt; everything = tt }

turns_keep : Keeps (Unit {0}) (Option Numbers) nowhere number_sets (λ u o. AllTurn o)
turns_keep = record {
  common = λ a c b d. both_turns c d;
  joined = λ a c b d. lifted_turns (λ u v. u || v) in_either (λ x y. refl) c d;
  without = λ a c b d. lifted_turns (λ u v. u && not v) in_first (λ x y. refl) c d;
  empty = λ i j h c. refl;
  everything = λ i j h c. refl;
}

beside_turns : (f : ℤ → Numbers) → ((i : ℤ) → TurnsAlone (f i)) → (d : Denotation ℤ) → AllTurn (beside f d)
beside_turns f t (Denoted i) = t i
beside_turns f t Nothing = λ i j h c. refl
beside_turns f t Unsure = tt

end_turns : (f : Numbers → Numbers) → ((s : Numbers) → TurnsAlone s → TurnsAlone (f s)) → (is_open : Bool) (n : Option Numbers) → AllTurn n → AllTurn (parent_end f is_open n)
end_turns f t false n p = λ i j h c. refl
end_turns f t true None p = tt
end_turns f t true (Some s) p = t s p

tree_turns : (t : ValueTree) → TurnsAlone (number_of_tree t)
tree_turns (WholeNumber i) = one_turns i
tree_turns _ = λ i j h c. refl

single_turns : (a : Answer) (d : Denotation ValueTree) → AllTurn (unless_all (Some every_number) None a (number_denoted d))
single_turns Yes d = λ i j h c. refl
single_turns No (Denoted t) = tree_turns t
single_turns No Nothing = λ i j h c. refl
single_turns No Unsure = tt
single_turns Unknown d = tt

if_turns : (b : Bool) (x y : Option Numbers) → AllTurn x → AllTurn y → AllTurn (if b then x else y)
if_turns true x y p q = p
if_turns false x y p q = q

module _ (M : Meaning) (meant : (p : Place) (cs : List Constraint) → AllTurn (M.numbers p cs)) where
  low_turns : (scope : Scope) (head : Place) (n : Option Numbers) → AllTurn n → (is_open : Bool) (v : Option ASN1Value) → AllTurn (from_low M scope (ValuesOf head n) is_open v)
  low_turns scope head n p is_open None = end_turns above_least least_turns is_open n p
  low_turns scope head n p is_open (Some v) = beside_turns (numbers_from is_open) (from_turns is_open) _

  high_turns : (scope : Scope) (head : Place) (n : Option Numbers) → AllTurn n → (is_open : Bool) (v : Option ASN1Value) → AllTurn (up_to_high M scope (ValuesOf head n) is_open v)
  high_turns scope head n p is_open None = end_turns below_greatest greatest_turns is_open n p
  high_turns scope head n p is_open (Some v) = beside_turns (numbers_to is_open) (to_turns is_open) _

  element_turns : (scope : Scope) (head : Place) (n : Option Numbers) → AllTurn n → (l : ElementLayer) → AllTurn (numbers_at_element M scope (ValuesOf head n) l)
  element_turns scope head n p (SubtypeElement-F.SingleValue v e) = single_turns (M.is_all scope v head) (M.denotes scope v head)
  element_turns scope head n p (SubtypeElement-F.ContainedSubtype ty e) = meant _ []
  element_turns scope head n p (SubtypeElement-F.TypeConstraint ty) = meant _ []
  element_turns scope head n p (SubtypeElement-F.ValueRange low high low_open high_open e) = both_turns _ _ (low_turns scope head n p low_open low) (high_turns scope head n p high_open high)
  element_turns scope head n p _ = λ i j h c. refl

  chain_turns : (scope : Scope) (head : Place) (n : Option Numbers) → AllTurn n → (o : Option Chain) → AllTurn (once None o (ranked number_sets (λ e. numbers_at_element M scope (ValuesOf head n) (out-SubtypeElement e))))
  chain_turns scope head n p None = tt
  chain_turns scope head n p (Some c) =
      ranked_kept (Unit {0}) (Option Numbers) nowhere number_sets (λ u o. AllTurn o) turns_keep (λ e. tt) _ (λ e. element_turns scope head n p (out-SubtypeElement e)) c

  narrowed_turns : (scope : Scope) (head : Place) (n : Option Numbers) → AllTurn n → (l : ConstraintLayer) → AllTurn (narrowed_at M scope head n l)
  narrowed_turns scope head n p (Constraint-F.SubtypeConstraint s) = both_turns n _ p (chain_turns scope head n p (M.chain s.set))
  narrowed_turns scope head n p _ = p

  all_turns : (scope : Scope) (head : Place) (cs : List Constraint) (n : Option Numbers) → AllTurn n → AllTurn (narrowed_by_all M scope head n cs)
  all_turns scope head [] n p = p
  all_turns scope head (c ∷ cs) n p =
      all_turns scope head cs (narrowed M scope head n c)
      (if_turns (is_free head) n _ p (narrowed_turns scope head n p (out-Constraint c)))

  head_turns : (k : Kind) → TurnsAlone (numbers_at_head k)
  head_turns (IntegerKind numbers) = λ i j h c. refl
  head_turns _ = λ i j h c. refl

  lead_turns : (p : Place) (l : Lead) → AllTurn (numbers_from_lead M p l)
  lead_turns p IsHead = head_turns (kind_of p)
  lead_turns p (LeadsTo x) = meant x.place x.constraints
  lead_turns p IsLost = tt

  found_turns : (defs : Definitions) (p : Place) (cs : List Constraint) (h : Option Place) → AllTurn (once None h (λ head. narrowed_by_all M p.scope head (numbers_before defs M p) (all_constraints p cs)))
  found_turns defs p cs None = tt
  found_turns defs p cs (Some head) = all_turns p.scope head (all_constraints p cs) _ (lead_turns p (lead defs M p))

  step_turns : (defs : Definitions) (p : Place) (cs : List Constraint) → AllTurn ((step defs M).numbers p cs)
  unfolding step
  step_turns defs p cs = found_turns defs p cs (M.head p)

nothing_turns : (p : Place) (cs : List Constraint) → AllTurn (nothing_known.numbers p cs)
unfolding nothing_known
nothing_turns p cs = tt

meaning_turns : (defs : Definitions) (n : ℕ) (p : Place) (cs : List Constraint) → AllTurn ((meaning defs n).numbers p cs)
unfolding meaning
meaning_turns defs zero p cs = nothing_turns p cs
meaning_turns defs (suc n) p cs = step_turns (meaning defs n) (meaning_turns defs n) defs p cs

turns_of : (o : Option Numbers) (s : Numbers) → AllTurn o → o ≡ Some s → TurnsAlone s
turns_of o s p e = subst AllTurn e p

-- The set that is found has a number below another, or above it, exactly where the tests say so.
pub bounds_exact : (defs : Definitions) (n : ℕ) (p : Place) (cs : List Constraint) (s : Numbers) (i : ℤ) → (meaning defs n).numbers p cs ≡ Some s → (has_below s i ≡ true ↔ (j : ℤ) × (j <ℤ i) × (s.has j ≡ true)) × (has_above s i ≡ true ↔ (j : ℤ) × (i <ℤ j) × (s.has j ≡ true))
bounds_exact defs n p cs s i e =
    let t = turns_of _ s (meaning_turns defs n p cs) e in
    ((below_is s i, λ f. below_found s i f.0 t f.1 f.2), (above_is s i, λ f. above_found s i f.0 t f.1 f.2))
