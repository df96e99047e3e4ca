-- Elements and sets are kept.
use Rattle.std.proofs.Common.{Bool, List, None, Option, Some, [], ap, false, inl, inr, pos, refl, subst, suc, sym, true, zero, ℕ, ◌+◌, ◌∙◌, ◌∷◌, ◌≡◌}
use Rattle.asn_tree_kinds.specs.declared.constraints.SetOperator.{SetOperator}
use Rattle.asn_tree_kinds.specs.declared.constraints.SetOperator.TheVariants.{Except, Intersection, Union}
use Rattle.asn_tree_kinds.specs.declared.types.DistinguishedValue.{DistinguishedValue}
use Rattle.asn_tree.specs.declared.constraints.ElementOrSetOperation.{ElementOrSetOperation, out-ElementOrSetOperation, out-roll-ElementOrSetOperation, roll-ElementOrSetOperation}
use Rattle.asn_tree.specs.declared.constraints.SubtypeElement.{SubtypeElement, SubtypeElement-F, out-SubtypeElement, out-roll-SubtypeElement, roll-SubtypeElement}
use Rattle.asn_tree.specs.declared.values.ASN1Value.{ASN1Value}
use Rattle.asn_meaning.specs.Answers.{Answer, No, once}
use Rattle.asn_meaning.specs.Constraints.{number_asked, set_holds, sizes}
use Rattle.asn_meaning.specs.Definitions.{Definitions}
use Rattle.asn_meaning.specs.Everything.{plain_text}
use Rattle.asn_meaning.specs.Judge.{meaning}
use Rattle.asn_meaning.specs.Kinds.{kind_at, kind_of}
use Rattle.asn_meaning.specs.Layers.{ElementLayer, SetLayer}
use Rattle.asn_meaning.specs.Meaning.{Meaning, Parent, ValuesOf}
use Rattle.asn_meaning.specs.Members.{element_place}
use Rattle.asn_meaning.specs.Numbers.{Chain, Joining, Numbers, above_least, answers, below_greatest, every_number, in_both, no_number, number_sets, numbers_from, numbers_to, ranked, ranked_from}
use Rattle.asn_meaning.specs.Ranges.{codes_of, end_denoted, from_low, integer_named, integer_of, numbers_at_element, numbers_in_set, numbers_of, up_to_high, value_place}
use Rattle.asn_meaning.specs.Scopes.{Empty, Place, Scope}
use Rattle.asn_meaning.specs.ValueTrees.{ValueTree, WholeNumber}
use Rattle.asn_meaning.proofs.Chains.{Keeps}
use Rattle.asn_link_instance.specs.Heads.{Alike, Before, is_simple}
use Rattle.asn_link_instance.specs.Instance.{component_instance, element_instance, inner_instance, instance, listed_instance, no_instance, of_constraints, set_instance}
use Rattle.asn_link_instance.specs.Subjects.{Choices, OnCharacters, OnValues, Subject, ends_read, perhaps, traversed, values_read}
use Rattle.asn_link_instance.specs.Ways.{Known, Refined, Settled, Way}
use Rattle.asn_link_instance.proofs.Below.{Below, IsOf, MadeChain, MadeElement, MadeOthers, MadeSet, by_subject, fewer, floor_before}
use Rattle.asn_link_instance.proofs.Forms.{alike_blind, codes_blind, named_blind}
use Rattle.asn_link_instance.proofs.Holding.{Holds, once_holds, rolled, then_holds}
use Rattle.asn_link_instance.proofs.Pairs.{answers_refined, beside_known, character_settled, lifted_known, number_known, number_sets_known, paired_known, paired_refined, parent_end_known, same_known, unless_known, whole_settled}
use Rattle.asn_tree.specs.declared.types.ASN1Type.TheVariants as type_of_kind

module _ (C : Choices) (defs : Definitions) where
  pub no_element : (floor : ℕ) (scope : Scope) (s : Subject) (e f : SubtypeElement) → (instance C defs floor zero).of_element scope s e ≡ Some f → ⊥
  unfolding instance no_instance
  no_element floor scope s e f p = cc

  pub no_set : (floor : ℕ) (scope : Scope) (s : Subject) (e f : ElementOrSetOperation) → (instance C defs floor zero).of_set scope s e ≡ Some f → ⊥
  unfolding instance no_instance
  no_set floor scope s e f p = cc

  element_unfolds : (floor i : ℕ) (scope : Scope) (s : Subject) (e : SubtypeElement) → (instance C defs floor (suc i)).of_element scope s e ≡ once None (element_instance C defs (meaning defs floor) (instance C defs floor i) scope s (out-SubtypeElement e)) (λ l. Some (roll-SubtypeElement l))
  unfolding instance
  element_unfolds floor i scope s e = refl

  set_unfolds : (floor i : ℕ) (scope : Scope) (s : Subject) (e : ElementOrSetOperation) → (instance C defs floor (suc i)).of_set scope s e ≡ once None (set_instance C defs (meaning defs floor) (instance C defs floor i) scope s (out-ElementOrSetOperation e)) (λ l. Some (roll-ElementOrSetOperation l))
  unfolding instance
  set_unfolds floor i scope s e = refl

  pub element_made : (j : ℕ) (scope : Scope) (s : Subject) (e f : SubtypeElement) (P : ElementLayer → Type 0) → MadeElement C defs j scope s e f →
      ((floor i : ℕ) → Before C defs j (floor + i) → Holds (element_instance C defs (meaning defs floor) (instance C defs floor i) scope s (out-SubtypeElement e)) P) → P (out-SubtypeElement f)
  element_made j scope s e f P (floor, zero, n, p) h = absurd (no_element floor scope s e f p)
  element_made j scope s e f P (floor, suc i, n, p) h = rolled roll-SubtypeElement out-SubtypeElement out-roll-SubtypeElement _ P f (h floor i (fewer C defs j floor i n)) (sym (element_unfolds floor i scope s e) ∙ p)

  pub set_made : (j : ℕ) (scope : Scope) (s : Subject) (e f : ElementOrSetOperation) (P : SetLayer → Type 0) → MadeSet C defs j scope s e f →
      ((floor i : ℕ) → Before C defs j (floor + i) → Holds (set_instance C defs (meaning defs floor) (instance C defs floor i) scope s (out-ElementOrSetOperation e)) P) → P (out-ElementOrSetOperation f)
  set_made j scope s e f P (floor, zero, n, p) h = absurd (no_set floor scope s e f p)
  set_made j scope s e f P (floor, suc i, n, p) h = rolled roll-ElementOrSetOperation out-ElementOrSetOperation out-roll-ElementOrSetOperation _ P f (h floor i (fewer C defs j floor i n)) (sym (set_unfolds floor i scope s e) ∙ p)

-- ---- chains of elements that are made

module _ (C : Choices) (defs : Definitions) (j : ℕ) (scope : Scope) (s : Subject) (A B : Type 0) (m : Joining A) (l : Joining B) (R : A → B → Type 0) (k : Keeps A B m l R) (f : SubtypeElement → A) (g : SubtypeElement → B)
    (h : (e d : SubtypeElement) → MadeElement C defs j scope s e d → R (f e) (g d)) where
  ranked_from_made : (u : A) (v : B) (met : A) (meet : B) (last : A) (least : B) → R u v → R met meet → R last least → (others after : List (SetOperator × SubtypeElement)) → MadeOthers C defs j scope s others after →
      R (ranked_from m f u met last others) (ranked_from l g v meet least after)
  ranked_from_made u v met meet last least p q r [] [] n = k.joined u v _ _ p (k.common met meet last least q r)
  ranked_from_made u v met meet last least p q r [] (d ∷ after) n = absurd n
  ranked_from_made u v met meet last least p q r ((o, e) ∷ others) [] n = absurd n
  ranked_from_made u v met meet last least p q r ((Except, e) ∷ others) ((o, d) ∷ after) (w, n, ns) =
      subst (λ z. R (ranked_from m f u met (m.without last (f e)) others) (ranked_from l g v meet least ((z, d) ∷ after))) (sym w)
      (ranked_from_made u v met meet (m.without last (f e)) (l.without least (g d)) p q (k.without last least _ _ r (h e d n)) others after ns)
  ranked_from_made u v met meet last least p q r ((Intersection, e) ∷ others) ((o, d) ∷ after) (w, n, ns) =
      subst (λ z. R (ranked_from m f u (m.common met last) (f e) others) (ranked_from l g v meet least ((z, d) ∷ after))) (sym w)
      (ranked_from_made u v (m.common met last) (l.common meet least) (f e) (g d) p (k.common met meet last least q r) (h e d n) others after ns)
  ranked_from_made u v met meet last least p q r ((Union, e) ∷ others) ((o, d) ∷ after) (w, n, ns) =
      subst (λ z. R (ranked_from m f (m.joined u (m.common met last)) m.everything (f e) others) (ranked_from l g v meet least ((z, d) ∷ after))) (sym w)
      (ranked_from_made (m.joined u (m.common met last)) (l.joined v (l.common meet least)) m.everything l.everything (f e) (g d) (k.joined u v _ _ p (k.common met meet last least q r)) k.everything (h e d n) others after ns)

  pub ranked_made : (c d : Chain) → MadeChain C defs j scope s c d → R (ranked m f c) (ranked l g d)
  ranked_made c d (n, ns) = ranked_from_made m.empty l.empty m.everything l.everything (f c.first) (g d.first) k.empty k.everything (h c.first d.first n) c.others d.others ns

-- ---- sets

pub simple_integer : (names : Option (List DistinguishedValue)) → is_simple (kind_of (integer_named names)) ≡ true
simple_integer names = ap (λ l. is_simple (kind_at l)) (type_of_kind.outs-Integer _)

simple_text : is_simple (kind_of plain_text) ≡ true
simple_text = ap (λ l. is_simple (kind_at l)) (type_of_kind.outs-CharacterString _)

pub asked_same : (h k : Place) (x y : Option Numbers) (t : ValueTree) → number_asked (ValuesOf k y) t ≡ number_asked (ValuesOf h x) t
asked_same h k x y (WholeNumber i) = refl
asked_same h k x y _ = refl

module _ (C : Choices) (defs others : Definitions) (j : ℕ) (way : Way) (M L : Meaning) (b : Below C defs others j way M L) where
  integers_alike : (h k : Place) → Alike C defs others j h k → Alike C defs others j (integer_of h) (integer_of k)
  integers_alike h k a = inl (ap integer_named (sym (alike_blind C defs others _ named_blind j h k a)), inr (simple_integer _))

  pub codes_same : (s : Subject) (p q : Parent) → IsOf C defs others j way s p q → codes_of q ≡ codes_of p
  codes_same s p q o = by_subject C defs others j way (λ s p q. codes_of q ≡ codes_of p) (λ h k x y a w. alike_blind C defs others _ codes_blind j h k a) (λ c. refl) s p q o

  -- the sizes are no one's values
  pub sizes_are : IsOf C defs others j way (OnValues (integer_named None)) sizes sizes
  sizes_are = (refl, (integer_named None, Some (numbers_from false (pos 0)), refl, inl (refl, inr (simple_integer None)), same_known way _))

  pub set_kept : (scope : Scope) (s : Subject) (p q : Parent) (x y : ElementOrSetOperation) (t : ValueTree) → MadeSet C defs j scope s x y → IsOf C defs others j way s p q → Refined way (set_holds M scope p x t) (set_holds L Empty q y t)
  set_kept scope s p q x y t n o =
      paired_refined way (λ c d. MadeChain C defs j scope s c d) (M.chain x) (L.chain y) (ranked answers (λ e. M.holds scope p e t)) (ranked answers (λ e. L.holds Empty q e t)) (b.chain scope s x y n) (λ c d m.
      ranked_made C defs j scope s Answer Answer answers answers (λ u v. Refined way u v) (answers_refined way) (λ e. M.holds scope p e t) (λ e. L.holds Empty q e t) (λ e f u. b.holds scope s p q e f t u o) c d m)

  -- ---- values

  pub all_kept : (floor i : ℕ) → Before C defs j (floor + i) → (scope : Scope) (v w : ASN1Value) (s : Subject) (p q : Parent) → IsOf C defs others j way s p q → C.value (meaning defs floor) scope v (values_read s) ≡ Some w →
      Refined way (M.is_all scope v (value_place p)) (L.is_all Empty w (value_place q))
  all_kept floor i n scope v w s p q o = by_subject C defs others j way (λ s p q. C.value (meaning defs floor) scope v (values_read s) ≡ Some w → Refined way (M.is_all scope v (value_place p)) (L.is_all Empty w (value_place q)))
      (λ h k x y a u e. b.values.all floor scope v w h k (floor_before C defs j floor i n) e a) (λ c e. b.values.all floor scope v w plain_text plain_text (floor_before C defs j floor i n) e (inl (refl, inr simple_text))) s p q o

  pub value_kept : (floor i : ℕ) → Before C defs j (floor + i) → (scope : Scope) (v w : ASN1Value) (s : Subject) (p q : Parent) → IsOf C defs others j way s p q → C.value (meaning defs floor) scope v (values_read s) ≡ Some w →
      M.is_all scope v (value_place p) ≡ No → L.is_all Empty w (value_place q) ≡ No → Settled way (M.denotes scope v (value_place p)) (L.denotes Empty w (value_place q))
  value_kept floor i n scope v w s p q o = by_subject C defs others j way (λ s p q. C.value (meaning defs floor) scope v (values_read s) ≡ Some w →
      M.is_all scope v (value_place p) ≡ No → L.is_all Empty w (value_place q) ≡ No → Settled way (M.denotes scope v (value_place p)) (L.denotes Empty w (value_place q)))
      (λ h k x y a u e. b.values.single floor scope v w h k (floor_before C defs j floor i n) e a) (λ c e. b.values.single floor scope v w plain_text plain_text (floor_before C defs j floor i n) e (inl (refl, inr simple_text))) s p q o

  end_kept : (floor i : ℕ) → Before C defs j (floor + i) → (scope : Scope) (v w : ASN1Value) (s : Subject) (p q : Parent) → IsOf C defs others j way s p q → C.end (meaning defs floor) scope v (ends_read s) ≡ Some w →
      Settled way (end_denoted M scope p v) (end_denoted L Empty q w)
  end_kept floor i n scope v w s p q o = by_subject C defs others j way (λ s p q. C.end (meaning defs floor) scope v (ends_read s) ≡ Some w → Settled way (end_denoted M scope p v) (end_denoted L Empty q w))
      (λ h k x y a u e. whole_settled way _ _ (b.values.end floor scope v w (integer_of h) (integer_of k) (floor_before C defs j floor i n) e (integers_alike h k a))) (λ c e. character_settled way _ _ (b.values.end floor scope v w plain_text plain_text (floor_before C defs j floor i n) e (inl (refl, inr simple_text)))) s p q o

  numbers_of_kept : (s : Subject) (p q : Parent) → IsOf C defs others j way s p q → Known way (numbers_of p) (numbers_of q)
  numbers_of_kept s p q o = by_subject C defs others j way (λ s p q. Known way (numbers_of p) (numbers_of q)) (λ h k x y a w. w) (λ c. same_known way _) s p q o

  module _ (floor i : ℕ) (n : Before C defs j (floor + i)) (scope : Scope) (s : Subject) (p q : Parent) (o : IsOf C defs others j way s p q) where
    low_kept : (is_open : Bool) (v : Option ASN1Value) → Holds (perhaps (λ v. C.end (meaning defs floor) scope v (ends_read s)) v) (λ w. Known way (from_low M scope p is_open v) (from_low L Empty q is_open w))
    low_kept is_open None = parent_end_known way above_least is_open _ _ (numbers_of_kept s p q o)
    low_kept is_open (Some v) = once_holds (C.end (meaning defs floor) scope v (ends_read s)) _ _ (λ w e. beside_known way (numbers_from is_open) _ _ (end_kept floor i n scope v w s p q o e))

    high_kept : (is_open : Bool) (v : Option ASN1Value) → Holds (perhaps (λ v. C.end (meaning defs floor) scope v (ends_read s)) v) (λ w. Known way (up_to_high M scope p is_open v) (up_to_high L Empty q is_open w))
    high_kept is_open None = parent_end_known way below_greatest is_open _ _ (numbers_of_kept s p q o)
    high_kept is_open (Some v) = once_holds (C.end (meaning defs floor) scope v (ends_read s)) _ _ (λ w e. beside_known way (numbers_to is_open) _ _ (end_kept floor i n scope v w s p q o e))

    pub range_kept : (low high : Option ASN1Value) (low_open high_open : Bool) (Q : ElementLayer → Type 0) (e : Bool) →
        ((l h : Option ASN1Value) → Known way (from_low M scope p low_open low) (from_low L Empty q low_open l) →
        Known way (up_to_high M scope p high_open high) (up_to_high L Empty q high_open h) → Q (SubtypeElement-F.ValueRange l h low_open high_open e)) →
        Holds (element_instance C defs (meaning defs floor) (instance C defs floor i) scope s (SubtypeElement-F.ValueRange low high low_open high_open e)) Q
    range_kept low high low_open high_open Q e f =
        then_holds (perhaps (λ v. C.end (meaning defs floor) scope v (ends_read s)) low) _ _ _ (low_kept low_open low) (λ l u r.
        then_holds (perhaps (λ v. C.end (meaning defs floor) scope v (ends_read s)) high) _ _ _ (high_kept high_open high) (λ h w t.
        f l h r t))

    -- the whole numbers of an element
    numbers_kept : (l : ElementLayer) → Holds (element_instance C defs (meaning defs floor) (instance C defs floor i) scope s l) (λ r. Known way (numbers_at_element M scope p l) (numbers_at_element L Empty q r))
    numbers_kept (SubtypeElement-F.SingleValue v e) =
        once_holds (C.value (meaning defs floor) scope v (values_read s)) _ _ (λ w u. unless_known way _ _ _ _ (all_kept floor i n scope v w s p q o u) (λ e f. number_known way _ _ (value_kept floor i n scope v w s p q o u e f)))
    numbers_kept (SubtypeElement-F.ContainedSubtype ty e) = once_holds ((instance C defs floor i).of_type true scope ty) _ _ (λ uy u. b.numbers true scope ty uy [] [] (floor, i, n, u) (inl (floor, i, n, refl)))
    numbers_kept (SubtypeElement-F.TypeConstraint ty) = once_holds ((instance C defs floor i).of_type true scope ty) _ _ (λ uy u. b.numbers true scope ty uy [] [] (floor, i, n, u) (inl (floor, i, n, refl)))
    numbers_kept (SubtypeElement-F.ValueRange low high low_open high_open e) = range_kept low high low_open high_open _ e (λ l h w u. lifted_known way in_both _ _ _ _ w u)
    numbers_kept (SubtypeElement-F.PermittedAlphabet set) = once_holds ((instance C defs floor i).of_set scope OnCharacters set) _ _ (λ x u. same_known way (Some no_number))
    numbers_kept (SubtypeElement-F.SizeConstraint set) = once_holds ((instance C defs floor i).of_set scope (OnValues (integer_named None)) set) _ _ (λ x u. same_known way (Some no_number))
    numbers_kept (SubtypeElement-F.SingleTypeConstraint cs) = component_numbers s
      where
        component_numbers : (s : Subject) → Holds (component_instance C defs (meaning defs floor) (instance C defs floor i) scope s cs) (λ r. Known way (Some no_number) (numbers_at_element L Empty q r))
        component_numbers (OnValues h) = once_holds (element_place h) _ _ (λ x u. once_holds (of_constraints C defs (meaning defs floor) (instance C defs floor i) scope x cs) _ _ (λ ds w. same_known way (Some no_number)))
        component_numbers OnCharacters = tt
    numbers_kept (SubtypeElement-F.MultipleTypeConstraints inner) = inner_numbers s
      where
        inner_numbers : (s : Subject) → Holds (inner_instance C defs (meaning defs floor) (instance C defs floor i) scope s inner) (λ r. Known way (Some no_number) (numbers_at_element L Empty q r))
        inner_numbers (OnValues h) = once_holds (traversed (listed_instance C defs (meaning defs floor) (instance C defs floor i) scope h) inner.constraints) _ _ (λ ds w. same_known way (Some no_number))
        inner_numbers OnCharacters = tt
    numbers_kept (SubtypeElement-F.PatternConstraint x) = same_known way (Some every_number)
    numbers_kept (SubtypeElement-F.UserDefinedConstraint x) = same_known way (Some every_number)
    numbers_kept (SubtypeElement-F.PropertySettings x) = same_known way (Some every_number)

  pub numbers_in_set_kept : (scope : Scope) (s : Subject) (p q : Parent) (x y : ElementOrSetOperation) → MadeSet C defs j scope s x y → IsOf C defs others j way s p q → Known way (numbers_in_set M scope p x) (numbers_in_set L Empty q y)
  numbers_in_set_kept scope s p q x y n o =
      paired_known way (λ c d. MadeChain C defs j scope s c d) (M.chain x) (L.chain y) (ranked number_sets (λ e. numbers_at_element M scope p (out-SubtypeElement e))) (ranked number_sets (λ e. numbers_at_element L Empty q (out-SubtypeElement e))) (b.chain scope s x y n) (λ c d m.
      ranked_made C defs j scope s (Option Numbers) (Option Numbers) number_sets number_sets (λ u v. Known way u v) (number_sets_known way) _ _
      (λ e f u. element_made C defs j scope s e f (λ r. Known way (numbers_at_element M scope p (out-SubtypeElement e)) (numbers_at_element L Empty q r)) u (λ floor i n. numbers_kept floor i n scope s p q o (out-SubtypeElement e))) c d m)
