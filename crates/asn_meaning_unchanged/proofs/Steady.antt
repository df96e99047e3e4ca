-- What is plain within some number of steps and within any more, and how it is put together from its parts.
use Rattle.std.proofs.Common.{◌≡◌, ℕ, zero, suc, ◌+◌, ◌≤◌, List, [], ◌∷◌, Bool, true, false, ◌&&◌, Some, refl, ap, ◌∙◌, arith}
use Rattle.std.specs.List.{list_all}
use Rattle.asn_tree_kinds.specs.declared.constraints.SetOperator.{SetOperator}
use Rattle.asn_tree.specs.declared.constraints.Constraint.{Constraint, out-Constraint}
use Rattle.asn_tree.specs.declared.constraints.ElementOrSetOperation.{ElementOrSetOperation, out-ElementOrSetOperation}
use Rattle.asn_tree.specs.declared.constraints.SetOperation.{SetOperation, out-SetOperation}
use Rattle.asn_tree.specs.declared.constraints.SubtypeElement.{SubtypeElement}
use Rattle.asn_tree.specs.declared.types.ASN1Type.{ASN1Type, out-ASN1Type}
use Rattle.asn_tree.specs.declared.types.ChoiceOption.{ChoiceOption, out-ChoiceOption}
use Rattle.asn_tree.specs.declared.types.SequenceOrSet.{SequenceOrSet, out-SequenceOrSet}
use Rattle.asn_tree.specs.declared.types.SequenceOrSetMember.{SequenceOrSetMember, out-SequenceOrSetMember}
use Rattle.asn_tree.specs.declared.types.SequenceOrSetOf.{SequenceOrSetOf, out-SequenceOrSetOf}
use Rattle.asn_tree.specs.declared.types.Choice.{Choice, out-Choice}
use Rattle.asn_tree_notation.specs.Types.{constraints_at}
use Rattle.asn_meaning.specs.Accepts.{place}
use Rattle.asn_meaning.specs.Answers.{once}
use Rattle.asn_meaning.specs.Constraints.{chain_at}
use Rattle.asn_meaning.specs.Definitions.{Definitions}
use Rattle.asn_meaning.specs.Judge.{meaning, step}
use Rattle.asn_meaning.specs.Kinds.{Kind, kind_at, kind_of}
use Rattle.asn_meaning.specs.Layers.{TypeLayer}
use Rattle.asn_meaning.specs.Meaning.{Meaning}
use Rattle.asn_meaning.specs.Names.{IsHead, head_from, lead_at}
use Rattle.asn_meaning.specs.Numbers.{Chain}
use Rattle.asn_meaning.specs.Placed.{listed}
use Rattle.asn_meaning.specs.Plain.{IsPlain, Plainness, constraint_plain, constraints_plain, member_plain, option_plain, parts_plain, plainness, set_plain, struct_plain}
use Rattle.asn_meaning.specs.Scopes.{Empty, Place}

pub both_true : (a b : Bool) → a ≡ true → b ≡ true → (a && b) ≡ true
both_true true b p q = q
both_true false b p q = absurd cc

abbrev pub Other : Type 0
Other = SetOperator × SubtypeElement

module _ (defs : Definitions) where
  -- the place is a head, from the first step on
  abbrev pub Heads : Place → Type 0
  Heads p = (n : ℕ) → (meaning defs (suc n)).head p ≡ Some p

  pub record ElementStays (e : SubtypeElement) : Type 0 where
    pub steps : ℕ
    pub plain : (n : ℕ) → steps ≤ n → (p : Place) → Heads p → (plainness defs n).of_element p e ≡ true

  pub record OthersStay (es : List Other) : Type 0 where
    pub steps : ℕ
    pub plain : (n : ℕ) → steps ≤ n → (p : Place) → Heads p → list_all (λ x. (plainness defs n).of_element p x.1) es ≡ true

  -- the chain of a set, and that each of its elements is plain
  pub record SetStays (set : ElementOrSetOperation) : Type 0 where
    pub chain : Chain
    pub steps : ℕ
    pub found : (n : ℕ) → steps ≤ n → (meaning defs n).chain set ≡ Some chain
    pub first : ElementStays chain.first
    pub others : OthersStay chain.others

  pub record OperationStays (o : SetOperation) : Type 0 where
    pub base : ElementStays (out-SetOperation o).base
    pub operant : SetStays (out-SetOperation o).operant

  pub record ConstraintStays (c : Constraint) : Type 0 where
    pub steps : ℕ
    pub plain : (n : ℕ) → steps ≤ n → (p : Place) → Heads p → constraint_plain (meaning defs n) (plainness defs n) p (out-Constraint c) ≡ true

  pub record ConstraintsStay (cs : List Constraint) : Type 0 where
    pub steps : ℕ
    pub plain : (n : ℕ) → steps ≤ n → (p : Place) → Heads p → list_all (λ d. constraint_plain (meaning defs n) (plainness defs n) p (out-Constraint d)) cs ≡ true

  pub record StaysPlain (ty : ASN1Type) : Type 0 where
    pub steps : ℕ
    pub plain : (n : ℕ) → steps ≤ n → (plainness defs n).of_type ty ≡ true

  pub record MemberStays (m : SequenceOrSetMember) : Type 0 where
    pub steps : ℕ
    pub plain : (n : ℕ) → steps ≤ n → member_plain (meaning defs n) (plainness defs n) (out-SequenceOrSetMember m) ≡ true

  pub record MembersStay (ms : List SequenceOrSetMember) : Type 0 where
    pub steps : ℕ
    pub plain : (n : ℕ) → steps ≤ n → list_all (λ m. member_plain (meaning defs n) (plainness defs n) (out-SequenceOrSetMember m)) ms ≡ true

  pub record OptionStays (o : ChoiceOption) : Type 0 where
    pub steps : ℕ
    pub plain : (n : ℕ) → steps ≤ n → option_plain (meaning defs n) (plainness defs n) (out-ChoiceOption o) ≡ true

  pub record OptionsStay (os : List ChoiceOption) : Type 0 where
    pub steps : ℕ
    pub plain : (n : ℕ) → steps ≤ n → list_all (λ o. option_plain (meaning defs n) (plainness defs n) (out-ChoiceOption o)) os ≡ true

  pub record StructStays (s : SequenceOrSet) : Type 0 where
    pub steps : ℕ
    pub plain : (n : ℕ) → steps ≤ n → struct_plain (meaning defs n) (plainness defs n) (out-SequenceOrSet s) ≡ true
    pub constraints : ConstraintsStay (out-SequenceOrSet s).constraints

  pub record ChoiceStays (c : Choice) : Type 0 where
    pub options : OptionsStay (out-Choice c).options
    pub constraints : ConstraintsStay (out-Choice c).constraints

  pub record ListStays (l : SequenceOrSetOf) : Type 0 where
    pub element : StaysPlain (out-SequenceOrSetOf l).element_type
    pub constraints : ConstraintsStay (out-SequenceOrSetOf l).constraints

  -- ---- lists

  pub no_others : OthersStay []
  no_others = record { steps = 0; plain = λ n h p head. refl }

  pub more_others : (x : Other) (xs : List Other) → ElementStays x.1 → OthersStay xs → OthersStay (x ∷ xs)
  more_others x xs e s = record { steps = e.steps + s.steps; plain = λ n h p head. both_true _ _ (e.plain n (omega (arith, h)) p head) (s.plain n (omega (arith, h)) p head) }

  pub no_constraints : ConstraintsStay []
  no_constraints = record { steps = 0; plain = λ n h p head. refl }

  pub more_constraints : (c : Constraint) (cs : List Constraint) → ConstraintStays c → ConstraintsStay cs → ConstraintsStay (c ∷ cs)
  more_constraints c cs e s = record { steps = e.steps + s.steps; plain = λ n h p head. both_true _ _ (e.plain n (omega (arith, h)) p head) (s.plain n (omega (arith, h)) p head) }

  pub no_members : MembersStay []
  no_members = record { steps = 0; plain = λ n h. refl }

  pub more_members : (m : SequenceOrSetMember) (ms : List SequenceOrSetMember) → MemberStays m → MembersStay ms → MembersStay (m ∷ ms)
  more_members m ms e s = record { steps = e.steps + s.steps; plain = λ n h. both_true _ _ (e.plain n (omega (arith, h))) (s.plain n (omega (arith, h))) }

  pub no_options : OptionsStay []
  no_options = record { steps = 0; plain = λ n h. refl }

  pub more_options : (o : ChoiceOption) (os : List ChoiceOption) → OptionStays o → OptionsStay os → OptionsStay (o ∷ os)
  more_options o os e s = record { steps = e.steps + s.steps; plain = λ n h. both_true _ _ (e.plain n (omega (arith, h))) (s.plain n (omega (arith, h))) }

  -- ---- sets

  abbrev chain_plain : Plainness → Place → Chain → Bool
  chain_plain P p c = P.of_element p c.first && list_all (λ x. P.of_element p x.1) c.others

  pub set_is_plain : (set : ElementOrSetOperation) (s : SetStays set) (n : ℕ) → s.steps + s.first.steps + s.others.steps ≤ n → (p : Place) → Heads p → set_plain (meaning defs n) (plainness defs n) p set ≡ true
  set_is_plain set s n h p head =
      ap (λ o. once false o (chain_plain (plainness defs n) p)) (s.found n (omega (arith, h)))
      ∙ both_true _ _ (s.first.plain n (omega (arith, h)) p head) (s.others.plain n (omega (arith, h)) p head)

  pub chain_known : (n : ℕ) (set : ElementOrSetOperation) → (meaning defs (suc n)).chain set ≡ chain_at (meaning defs n) (out-ElementOrSetOperation set)
  unfolding meaning step
  chain_known n set = refl

  -- ---- types

  pub head_known : (ty : ASN1Type) → ((M : Meaning) → lead_at defs M Empty (kind_of (place Empty ty)) ≡ IsHead) → Heads (place Empty ty)
  unfolding meaning step
  head_known ty is n = ap (head_from (meaning defs n) (place Empty ty)) (is (meaning defs n))

  -- constraints on a head
  pub record OnHead (p : Place) (cs : List Constraint) : Type 0 where
    pub steps : ℕ
    pub plain : (n : ℕ) → steps ≤ n → constraints_plain (meaning defs n) (plainness defs n) p cs ≡ true

  pub on_head : (p : Place) → Heads p → (cs : List Constraint) → ConstraintsStay cs → OnHead p cs
  on_head p head [] s = record { steps = 0; plain = λ n h. refl }
  on_head p head (c ∷ cs) s = record { steps = suc s.steps; plain = go }
    where
      go : (n : ℕ) → suc s.steps ≤ n → constraints_plain (meaning defs n) (plainness defs n) p (c ∷ cs) ≡ true
      go zero h = absurd (omega arith)
      go (suc n) h =
          ap (λ o. once false o (λ q. list_all (λ d. constraint_plain (meaning defs (suc n)) (plainness defs (suc n)) q (out-Constraint d)) (c ∷ cs))) (head n)
          ∙ s.plain (suc n) (omega (arith, h)) p head

  -- the parts of a kind
  pub record PartsStay (k : Kind) : Type 0 where
    pub steps : ℕ
    pub plain : (n : ℕ) → steps ≤ n → parts_plain defs (meaning defs n) (plainness defs n) k ≡ true

  abbrev layer_plain : Meaning → Plainness → ASN1Type → TypeLayer → Bool
  layer_plain M P ty l = parts_plain defs M P (kind_at l) && constraints_plain M P (place Empty ty) (listed (constraints_at l))

  by_layer : (ty : ASN1Type) (l : TypeLayer) → out-ASN1Type ty ≡ l → (n : ℕ) → layer_plain (meaning defs n) (plainness defs n) ty l ≡ true → (plainness defs (suc n)).of_type ty ≡ true
  unfolding plainness
  by_layer ty l is n p = ap (layer_plain (meaning defs n) (plainness defs n) ty) is ∙ p

  -- a type whose parts stay plain, with the constraints on it
  pub of_parts : (ty : ASN1Type) (l : TypeLayer) → out-ASN1Type ty ≡ l → PartsStay (kind_at l) → OnHead (place Empty ty) (listed (constraints_at l)) → StaysPlain ty
  of_parts ty l is parts cs = record { steps = suc (parts.steps + cs.steps); plain = go }
    where
      go : (n : ℕ) → suc (parts.steps + cs.steps) ≤ n → (plainness defs n).of_type ty ≡ true
      go zero h = absurd (omega arith)
      go (suc n) h = by_layer ty l is n (both_true _ _ (parts.plain n (omega (arith, h))) (cs.plain n (omega (arith, h))))

  -- the same of a head
  pub of_head : (ty : ASN1Type) (l : TypeLayer) → out-ASN1Type ty ≡ l → ((M : Meaning) → lead_at defs M Empty (kind_at l) ≡ IsHead) → PartsStay (kind_at l) → ConstraintsStay (listed (constraints_at l)) → StaysPlain ty
  of_head ty l is leads parts cs = of_parts ty l is parts (on_head (place Empty ty) (head_known ty (λ M. ap (λ x. lead_at defs M Empty (kind_at x)) is ∙ leads M)) (listed (constraints_at l)) cs)

  pub is_plain : (ty : ASN1Type) → StaysPlain ty → IsPlain defs ty
  is_plain ty s = (s.steps, s.plain s.steps (omega arith))
