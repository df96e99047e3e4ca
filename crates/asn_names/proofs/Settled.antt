-- What types of basic forms lead to, and what is known of ranges of numbers, within how many steps.
use Rattle.std.proofs.Common.{◌≡◌, ℕ, zero, suc, ◌+◌, ◌≤◌, List, [], ◌∷◌, ◌++◌, Bool, true, false, Option, Some, None, refl, ap, ◌∙◌, arith}
use Rattle.std.specs.Prelude.{◌&&◌, if◌then◌else◌, ℤ}
use Rattle.asn_tree_kinds.specs.declared.types.DistinguishedValue.{DistinguishedValue}
use Rattle.asn_tree.specs.declared.constraints.Constraint.{Constraint, Constraint-F, out-Constraint}
use Rattle.asn_tree.specs.declared.constraints.ElementOrSetOperation.{ElementOrSetOperation, ElementOrSetOperation-F, out-ElementOrSetOperation}
use Rattle.asn_tree.specs.declared.constraints.SubtypeElement.{SubtypeElement, SubtypeElement-F, out-SubtypeElement}
use Rattle.asn_tree.specs.declared.types.ASN1Type.{ASN1Type}
use Rattle.asn_tree.specs.declared.types.ASN1Type.TheVariants.{outs-Integer}
use Rattle.asn_tree.specs.declared.values.ASN1Value.{ASN1Value}
use Rattle.asn_tree.specs.Layers.{SetLayer}
use Rattle.asn_meaning.specs.Accepts.{place}
use Rattle.asn_meaning.specs.Answers.{Answer, Yes, No, Unknown, once, both, answer_of, Denoted, Unsure}
use Rattle.asn_meaning.specs.Constraints.{all_hold, chain_at, constraint_at, constraint_holds, holds_at, side_holds, range_holds, number_asked, set_holds}
use Rattle.asn_meaning.specs.Definitions.{Definitions}
use Rattle.asn_meaning.specs.Denotes.{denoted_under, is_open_kind, parts_row, row_or_parts, value_denoted}
use Rattle.asn_meaning.specs.Judge.{meaning, step}
use Rattle.asn_meaning.specs.Kinds.{IntegerKind, kind_at, kind_of}
use Rattle.asn_meaning.specs.Layers.{ConstraintLayer, ElementLayer}
use Rattle.asn_meaning.specs.Meaning.{Meaning, ValuesOf}
use Rattle.asn_meaning.specs.Names.{IsHead, LeadsTo, head_from, lead, lead_at}
use Rattle.asn_meaning.specs.Numbers.{Numbers, above_least, answers, below_greatest, every_number, in_both, in_either, lifted, no_number, number_sets, numbers_from, numbers_to, ranked}
use Rattle.asn_meaning.specs.Ranges.{all_constraints, beside, end_denoted, from_low, up_to_high, integer_named, is_free, narrowed, narrowed_at, narrowed_by_all, named_numbers_in, numbers_at_element, numbers_at_head, numbers_before, numbers_from_lead, numbers_in_set, parent_end, range, whole_number}
use Rattle.asn_meaning.specs.Placed.{listed}
use Rattle.asn_meaning.specs.Rows.{row}
use Rattle.asn_tree_notation.specs.Types.{constraints_of}
use Rattle.asn_meaning.specs.Scopes.{Scope, Empty, Place, bare}
use Rattle.asn_meaning.specs.ValueTrees.{ValueTree, Opaque, WholeNumber}
use Rattle.asn_meaning.specs.Written.{Written, NumberWritten, as_written}
use Rattle.asn_needs.specs.Basic.{are_basic, basic_constraint, basic_element, basic_end, basic_set, is_number}
use Rattle.asn_names.specs.Decided.{IsYesOrNo}

-- ---- answers and tests

pub both_known : (a b : Answer) → IsYesOrNo a → IsYesOrNo b → IsYesOrNo (both a b)
both_known Yes b p q = q
both_known No b p q = tt
both_known Unknown b p q = absurd p

pub answer_known : (b : Bool) → IsYesOrNo (answer_of b)
answer_known true = tt
answer_known false = tt

pub both_true : (a b : Bool) → (a && b) ≡ true → (a ≡ true) × (b ≡ true)
both_true true b h = (refl, h)
both_true false b h = absurd cc

-- something is known
abbrev pub IsThere : {A : Type 0} → Option A → Type 0
IsThere {A} o = (x : A) × (o ≡ Some x)

lifted_there : (f : Numbers → Numbers → Numbers) (a b : Option Numbers) → IsThere a → IsThere b → IsThere (lifted f a b)
lifted_there f None b p q = absurd cc
lifted_there f (Some x) None p q = absurd cc
lifted_there f (Some x) (Some y) p q = (f x y, refl)

module _ (defs : Definitions) where
  -- ---- ends of ranges

  module _ (names : Option (List DistinguishedValue)) where
    is_integer : kind_of (integer_named names) ≡ IntegerKind names
    is_integer = ap kind_at (outs-Integer (record { constraints = []; distinguished_values = names }))

    integer_head : (n : ℕ) → (meaning defs (suc n)).head (integer_named names) ≡ Some (integer_named names)
    unfolding meaning step
    integer_head n = ap (λ k. head_from (meaning defs n) (integer_named names) (lead_at defs (meaning defs n) Empty k)) is_integer

    number_under : (M : Meaning) (scope : Scope) (v : ASN1Value) (w : Written) → as_written v ≡ w → is_number w ≡ true → (i : ℤ) × (denoted_under defs M scope v (integer_named names) ≡ Denoted (WholeNumber i))
    number_under M scope v (NumberWritten i) is h = (
      i,
      ap (λ w. if is_open_kind (kind_of (integer_named names)) then Denoted Opaque else value_denoted defs M scope (integer_named names) w) is
          ∙ ap (λ k. if is_open_kind k then Denoted Opaque else row_or_parts (row k) (parts_row M scope (NumberWritten i) Empty k) (NumberWritten i)) is_integer,
    )
    number_under M scope v _ is h = absurd cc

  -- an end that is written as a number denotes it
  pub end_there : (n : ℕ) (scope : Scope) (head : Place) (numbers : Option Numbers) (v : ASN1Value) → is_number (as_written v) ≡ true → (i : ℤ) × (end_denoted (meaning defs (suc (suc n))) scope (ValuesOf head numbers) v ≡ Denoted i)
  unfolding meaning step
  end_there n scope head numbers v h =
      let names = named_numbers_in (kind_of head) in
      let d = number_under names (meaning defs (suc n)) scope v (as_written v) refl h in
      (d.0, ap whole_number (ap (λ o. once Unsure o (denoted_under defs (meaning defs (suc n)) scope v)) (integer_head names n) ∙ d.1))

  parent_there : (f : Numbers → Numbers) (is_open : Bool) (numbers : Option Numbers) → IsThere numbers → IsThere (parent_end f is_open numbers)
  parent_there f false numbers there = (every_number, refl)
  parent_there f true None there = absurd cc
  parent_there f true (Some s) there = (f s, refl)

  low_there : (n : ℕ) (scope : Scope) (head : Place) (numbers : Option Numbers) (is_open : Bool) (low : Option ASN1Value) → basic_end low ≡ true → IsThere numbers → IsThere (from_low (meaning defs (suc (suc n))) scope (ValuesOf head numbers) is_open low)
  low_there n scope head numbers is_open None h there = parent_there above_least is_open numbers there
  low_there n scope head numbers is_open (Some v) h there = let d = end_there n scope head numbers v h in (numbers_from is_open d.0, ap (beside (numbers_from is_open)) d.1)

  high_there : (n : ℕ) (scope : Scope) (head : Place) (numbers : Option Numbers) (is_open : Bool) (high : Option ASN1Value) → basic_end high ≡ true → IsThere numbers → IsThere (up_to_high (meaning defs (suc (suc n))) scope (ValuesOf head numbers) is_open high)
  high_there n scope head numbers is_open None h there = parent_there below_greatest is_open numbers there
  high_there n scope head numbers is_open (Some v) h there = let d = end_there n scope head numbers v h in (numbers_to is_open d.0, ap (beside (numbers_to is_open)) d.1)

  range_there : (n : ℕ) (scope : Scope) (head : Place) (numbers : Option Numbers) (low high : Option ASN1Value) (low_open high_open : Bool) → (basic_end low && basic_end high) ≡ true → IsThere numbers → IsThere (range (meaning defs (suc (suc n))) scope (ValuesOf head numbers) low high low_open high_open)
  range_there n scope head numbers low high low_open high_open h there =
      let ends = both_true (basic_end low) (basic_end high) h in
      lifted_there in_both _ _ (low_there n scope head numbers low_open low ends.0 there) (high_there n scope head numbers high_open high ends.1 there)

  -- ---- constraints

  side_answer : (o : Option Numbers) (i : ℤ) → IsThere o → IsYesOrNo (side_holds o i)
  side_answer None i there = absurd cc
  side_answer (Some s) i there = answer_known (s.has i)

  range_answer : (low high : Option Numbers) (i : Option ℤ) → IsThere low → IsThere high → IsYesOrNo (range_holds low high i)
  range_answer low high None p q = tt
  range_answer low high (Some i) p q = both_known _ _ (side_answer low i p) (side_answer high i q)

  module _ (n : ℕ) (scope : Scope) (head : Place) where
    -- what is known within three steps more
    abbrev Known : Meaning
    Known = meaning defs (suc (suc (suc n)))

    element_holds : (numbers : Option Numbers) (t : ValueTree) (l : ElementLayer) → basic_element l ≡ true → IsThere numbers → IsYesOrNo (holds_at (meaning defs (suc (suc n))) scope (ValuesOf head numbers) t l)
    element_holds numbers t (SubtypeElement-F.ValueRange low high low_open high_open extensible) h there =
        let ends = both_true (basic_end low) (basic_end high) h in
        range_answer _ _ (number_asked (ValuesOf head numbers) t) (low_there n scope head numbers low_open low ends.0 there) (high_there n scope head numbers high_open high ends.1 there)
    element_holds numbers t _ h there = absurd cc

    holds_known : (numbers : Option Numbers) (e : SubtypeElement) (t : ValueTree) → basic_element (out-SubtypeElement e) ≡ true → IsThere numbers → IsYesOrNo (Known.holds scope (ValuesOf head numbers) e t)
    unfolding meaning step
    holds_known numbers e t h there = element_holds numbers t (out-SubtypeElement e) h there

    element_there : (numbers : Option Numbers) (l : ElementLayer) → basic_element l ≡ true → IsThere numbers → IsThere (numbers_at_element Known scope (ValuesOf head numbers) l)
    element_there numbers (SubtypeElement-F.ValueRange low high low_open high_open extensible) h there = range_there (suc n) scope head numbers low high low_open high_open h there
    element_there numbers _ h there = absurd cc

    set_known : (numbers : Option Numbers) (set : ElementOrSetOperation) (t : ValueTree) → basic_set (out-ElementOrSetOperation set) ≡ true → IsThere numbers → IsYesOrNo (set_holds Known scope (ValuesOf head numbers) set t)
    unfolding meaning step
    set_known numbers set t h there = go (out-ElementOrSetOperation set) h
      where
        go : (l : SetLayer) → basic_set l ≡ true → IsYesOrNo (once Unknown (chain_at (meaning defs (suc (suc n))) l) (ranked answers (λ e. Known.holds scope (ValuesOf head numbers) e t)))
        go (ElementOrSetOperation-F.Element e) g = holds_known numbers e t g there
        go (ElementOrSetOperation-F.SetOperation x) g = absurd cc

    set_there : (numbers : Option Numbers) (set : ElementOrSetOperation) → basic_set (out-ElementOrSetOperation set) ≡ true → IsThere numbers → IsThere (numbers_in_set Known scope (ValuesOf head numbers) set)
    unfolding meaning step
    set_there numbers set h there = go (out-ElementOrSetOperation set) h
      where
        go : (l : SetLayer) → basic_set l ≡ true → IsThere (once None (chain_at (meaning defs (suc (suc n))) l) (ranked number_sets (λ e. numbers_at_element Known scope (ValuesOf head numbers) (out-SubtypeElement e))))
        go (ElementOrSetOperation-F.Element e) g = lifted_there in_either _ _ (no_number, refl) (lifted_there in_both _ _ (every_number, refl) (element_there numbers (out-SubtypeElement e) g there))
        go (ElementOrSetOperation-F.SetOperation x) g = absurd cc

    constraint_known : (numbers : Option Numbers) (c : Constraint) (t : ValueTree) → basic_constraint (out-Constraint c) ≡ true → IsThere numbers → IsYesOrNo (constraint_holds Known scope head numbers c t)
    constraint_known numbers c t h there = free (is_free head) (go (out-Constraint c) h)
      where
        go : (l : ConstraintLayer) → basic_constraint l ≡ true → IsYesOrNo (constraint_at Known scope (ValuesOf head numbers) t l)
        go (Constraint-F.SubtypeConstraint s) g = set_known numbers s.set t g there
        go (Constraint-F.TableConstraint s) g = absurd cc
        go (Constraint-F.Parameter s) g = absurd cc
        go (Constraint-F.ContentConstraint s) g = absurd cc

        free : (b : Bool) → IsYesOrNo (constraint_at Known scope (ValuesOf head numbers) t (out-Constraint c)) → IsYesOrNo (if b then Yes else constraint_at Known scope (ValuesOf head numbers) t (out-Constraint c))
        free true p = tt
        free false p = p

    narrowed_there : (numbers : Option Numbers) (c : Constraint) → basic_constraint (out-Constraint c) ≡ true → IsThere numbers → IsThere (narrowed Known scope head numbers c)
    narrowed_there numbers c h there = free (is_free head) (go (out-Constraint c) h)
      where
        go : (l : ConstraintLayer) → basic_constraint l ≡ true → IsThere (narrowed_at Known scope head numbers l)
        go (Constraint-F.SubtypeConstraint s) g = lifted_there in_both _ _ there (set_there numbers s.set g there)
        go (Constraint-F.TableConstraint s) g = absurd cc
        go (Constraint-F.Parameter s) g = absurd cc
        go (Constraint-F.ContentConstraint s) g = absurd cc

        free : (b : Bool) → IsThere (narrowed_at Known scope head numbers (out-Constraint c)) → IsThere (if b then numbers else narrowed_at Known scope head numbers (out-Constraint c))
        free true p = there
        free false p = p

    all_known : (numbers : Option Numbers) (cs : List Constraint) (t : ValueTree) → are_basic cs ≡ true → IsThere numbers → IsYesOrNo (all_hold Known scope head numbers cs t)
    all_known numbers [] t h there = tt
    all_known numbers (c ∷ cs) t h there =
        let hs = both_true (basic_constraint (out-Constraint c)) (are_basic cs) h in
        both_known _ _ (constraint_known numbers c t hs.0 there) (all_known (narrowed Known scope head numbers c) cs t hs.1 (narrowed_there numbers c hs.0 there))

    all_there : (numbers : Option Numbers) (cs : List Constraint) → are_basic cs ≡ true → IsThere numbers → IsThere (narrowed_by_all Known scope head numbers cs)
    all_there numbers [] h there = there
    all_there numbers (c ∷ cs) h there =
        let hs = both_true (basic_constraint (out-Constraint c)) (are_basic cs) h in
        all_there (narrowed Known scope head numbers c) cs hs.1 (narrowed_there numbers c hs.0 there)

  -- the same within any number of steps from three on
  pub all_known_from : (k : ℕ) → 3 ≤ k → (scope : Scope) (head : Place) (numbers : Option Numbers) (cs : List Constraint) (t : ValueTree) → are_basic cs ≡ true → IsThere numbers → IsYesOrNo (all_hold (meaning defs k) scope head numbers cs t)
  all_known_from zero h scope head numbers cs t b there = absurd (omega (arith, h))
  all_known_from (suc zero) h scope head numbers cs t b there = absurd (omega (arith, h))
  all_known_from (suc (suc zero)) h scope head numbers cs t b there = absurd (omega (arith, h))
  all_known_from (suc (suc (suc n))) h scope head numbers cs t b there = all_known n scope head numbers cs t b there

  all_there_from : (k : ℕ) → 3 ≤ k → (scope : Scope) (head : Place) (numbers : Option Numbers) (cs : List Constraint) → are_basic cs ≡ true → IsThere numbers → IsThere (narrowed_by_all (meaning defs k) scope head numbers cs)
  all_there_from zero h scope head numbers cs b there = absurd (omega (arith, h))
  all_there_from (suc zero) h scope head numbers cs b there = absurd (omega (arith, h))
  all_there_from (suc (suc zero)) h scope head numbers cs b there = absurd (omega (arith, h))
  all_there_from (suc (suc (suc n))) h scope head numbers cs b there = all_there n scope head numbers cs b there

  -- ---- heads and numbers

  pub basic_append : (xs ys : List Constraint) → are_basic xs ≡ true → are_basic ys ≡ true → are_basic (xs ++ ys) ≡ true
  basic_append [] ys p q = q
  basic_append (x ∷ xs) ys p q =
      let ps = both_true (basic_constraint (out-Constraint x)) (are_basic xs) p in
      ap (λ b. b && are_basic (xs ++ ys)) ps.0 ∙ basic_append xs ys ps.1 q

  -- The type is a head within any steps; the type leads to another within any steps.
  abbrev pub IsAlwaysHead : ASN1Type → Type 0
  IsAlwaysHead ty = (M : Meaning) → lead defs M (place Empty ty) ≡ IsHead

  abbrev pub AlwaysLeadsTo : ASN1Type → ASN1Type → Type 0
  AlwaysLeadsTo ty other = (M : Meaning) → lead defs M (place Empty ty) ≡ LeadsTo (bare Empty other)

  -- So many names are followed from the type to its head.
  pub record Settled (g : ℕ) (ty : ASN1Type) : Type 0 where
    pub head : (k : ℕ) → g + 1 ≤ k → IsThere ((meaning defs k).head (place Empty ty))
    pub numbers : (k : ℕ) (cs : List Constraint) → are_basic cs ≡ true → g + 4 ≤ k → IsThere ((meaning defs k).numbers (place Empty ty) cs)

  by_equal : {A : Type 0} (o p : Option A) → o ≡ p → IsThere p → IsThere o
  by_equal o p e there = (there.0, e ∙ there.1)

  numbers_there : (k : ℕ) → 3 ≤ k → (p : Place) (cs : List Constraint) → are_basic (all_constraints p cs) ≡ true → IsThere ((meaning defs k).head p) → IsThere (numbers_before defs (meaning defs k) p) → IsThere ((meaning defs (suc k)).numbers p cs)
  unfolding meaning step
  numbers_there k h p cs b head before =
      by_equal _ _ (ap (λ o. once None o (λ q. narrowed_by_all (meaning defs k) p.scope q (numbers_before defs (meaning defs k) p) (all_constraints p cs))) head.1)
      (all_there_from k h p.scope head.0 (numbers_before defs (meaning defs k) p) (all_constraints p cs) b before)

  head_there : (ty : ASN1Type) → IsAlwaysHead ty → (k : ℕ) → 1 ≤ k → IsThere ((meaning defs k).head (place Empty ty))
  unfolding meaning step
  head_there ty is zero h = absurd (omega (arith, h))
  head_there ty is (suc k) h = (place Empty ty, ap (head_from (meaning defs k) (place Empty ty)) (is (meaning defs k)))

  further_there : (ty other : ASN1Type) → AlwaysLeadsTo ty other → (k : ℕ) → IsThere ((meaning defs k).head (place Empty other)) → IsThere ((meaning defs (suc k)).head (place Empty ty))
  unfolding meaning step
  further_there ty other is k there = by_equal _ _ (ap (head_from (meaning defs k) (place Empty ty)) (is (meaning defs k))) there

  pub before_head : (ty : ASN1Type) → IsAlwaysHead ty → (k : ℕ) → IsThere (numbers_before defs (meaning defs k) (place Empty ty))
  before_head ty is k = (numbers_at_head (kind_of (place Empty ty)), ap (numbers_from_lead (meaning defs k) (place Empty ty)) (is (meaning defs k)))

  pub before_further : (ty other : ASN1Type) → AlwaysLeadsTo ty other → (k : ℕ) → IsThere ((meaning defs k).numbers (place Empty other) []) → IsThere (numbers_before defs (meaning defs k) (place Empty ty))
  before_further ty other is k there = by_equal _ _ (ap (numbers_from_lead (meaning defs k) (place Empty ty)) (is (meaning defs k))) there

  -- the type's own constraints are basic
  abbrev pub OwnBasic : ASN1Type → Type 0
  OwnBasic ty = are_basic (listed (constraints_of ty)) ≡ true

  pub settled_head : (ty : ASN1Type) → IsAlwaysHead ty → OwnBasic ty → Settled 0 ty
  settled_head ty is own = record { head = λ k h. head_there ty is k (omega (arith, h)); numbers = numbers }
    where
      numbers : (k : ℕ) (cs : List Constraint) → are_basic cs ≡ true → 0 + 4 ≤ k → IsThere ((meaning defs k).numbers (place Empty ty) cs)
      numbers zero cs b h = absurd (omega (arith, h))
      numbers (suc k) cs b h =
          numbers_there k (omega (arith, h)) (place Empty ty) cs (basic_append (listed (constraints_of ty)) cs own b) (head_there ty is k (omega (arith, h))) (before_head ty is k)

  pub settled_further : (g : ℕ) (ty other : ASN1Type) → AlwaysLeadsTo ty other → OwnBasic ty → Settled g other → Settled (suc g) ty
  settled_further g ty other is own s = record { head = head; numbers = numbers }
    where
      head : (k : ℕ) → suc g + 1 ≤ k → IsThere ((meaning defs k).head (place Empty ty))
      head zero h = absurd (omega (arith, h))
      head (suc k) h = further_there ty other is k (s.head k (omega (arith, h)))

      numbers : (k : ℕ) (cs : List Constraint) → are_basic cs ≡ true → suc g + 4 ≤ k → IsThere ((meaning defs k).numbers (place Empty ty) cs)
      numbers zero cs b h = absurd (omega (arith, h))
      numbers (suc zero) cs b h = absurd (omega (arith, h))
      numbers (suc (suc k)) cs b h =
          numbers_there (suc k) (omega (arith, h)) (place Empty ty) cs (basic_append (listed (constraints_of ty)) cs own b)
          (further_there ty other is k (s.head k (omega (arith, h))))
          (before_further ty other is (suc k) (s.numbers (suc k) [] refl (omega (arith, h))))
