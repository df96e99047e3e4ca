-- Heads that are alike: one is what the instance of a type makes of the other, constraints aside.
use Rattle.std.specs.Prelude.{Bool, ◌≡◌, ◌⊎◌, ℕ, suc, ◌+◌, true, false, List, [], ◌∷◌, Option, Some}
use Rattle.asn_tree.specs.declared.constraints.Constraint.{Constraint}
use Rattle.asn_tree.specs.declared.types.ASN1Type.{ASN1Type}
use Rattle.asn_tree.specs.declared.types.ChoiceOption.{ChoiceOption, out-ChoiceOption}
use Rattle.asn_tree.specs.declared.types.SequenceOrSetMember.{SequenceOrSetMember, out-SequenceOrSetMember}
use Rattle.asn_tree.specs.declared.values.ASN1Value.{ASN1Value}
use Rattle.asn_meaning.specs.Answers.{No}
use Rattle.asn_meaning.specs.Definitions.{Definitions}
use Rattle.asn_meaning.specs.Judge.{meaning}
use Rattle.asn_meaning.specs.Kinds.{Kind, CharacterStringKind, IntegerKind, ChoiceKind, FieldKind, ListKind, ReferenceKind, SelectionKind, StructKind, kind_of}
use Rattle.asn_meaning.specs.Layers.{ClassFieldLayer, StructLayer}
use Rattle.asn_meaning.specs.Meaning.{Meaning, Member}
use Rattle.asn_meaning.specs.Members.{is_addition_at}
use Rattle.asn_meaning.specs.Scopes.{Scope, Empty, Place}
use Rattle.asn_meaning.specs.ValueTrees.{same_truth}
use Rattle.asn_link_instance.specs.Instance.{instance, of_constraints, option_instance, member_instance}
use Rattle.asn_link_instance.specs.Subjects.{Choices}
use Rattle.asn_link_instance.specs.Ways.{Way, Forth, Back, Refined, Settled, steps_back}

module _ (C : Choices) (defs : Definitions) where
  -- what instances of one number of levels make of constraints, by what `n` steps tell at the lowest
  abbrev pub constraints_made : ℕ → ℕ → Scope → Place → List Constraint → Option (List Constraint)
  constraints_made n k = of_constraints C defs (meaning defs n) (instance C defs n k)

  abbrev pub MadeOptions : ℕ → ℕ → Scope → List ChoiceOption → List ChoiceOption → Type 0
  MadeOptions n k scope [] [] = Unit {0}
  MadeOptions n k scope (o ∷ os) (p ∷ ps) = (option_instance C defs (meaning defs n) (instance C defs n k) scope (out-ChoiceOption o) ≡ Some (out-ChoiceOption p)) × MadeOptions n k scope os ps
  MadeOptions n k scope _ _ = ⊥

  abbrev pub MadeMembers : ℕ → ℕ → Option ℕ → ℕ → List Member → List SequenceOrSetMember → Type 0
  MadeMembers n k marker number [] [] = Unit {0}
  MadeMembers n k marker number (m ∷ ms) (w ∷ ws) =
      (same_truth m.is_addition (is_addition_at marker number) ≡ true)
      × (member_instance C defs (meaning defs n) (instance C defs n k) m.scope m.written ≡ Some (out-SequenceOrSetMember w))
      × MadeMembers n k marker (suc number) ms ws
  MadeMembers n k marker number _ _ = ⊥

  abbrev pub MadeStruct : ℕ → ℕ → Scope → StructLayer → StructLayer → Type 0
  MadeStruct n k scope x y = (y.components_of ≡ []) × ((ms : List Member) × ((meaning defs n).members scope x ≡ Some ms) × MadeMembers n k y.extensible 0 ms y.members)

  -- the kind of a head, read in a scope, and what an instance makes of it
  abbrev pub KindForm : ℕ → ℕ → Scope → Kind → Kind → Type 0
  KindForm n k scope (StructKind x) l = (y : StructLayer) × (l ≡ StructKind y) × MadeStruct n k scope x y
  KindForm n k scope (ListKind ty) l = (uy : ASN1Type) × (l ≡ ListKind uy) × ((instance C defs n k).of_type false scope ty ≡ Some uy)
  KindForm n k scope (ChoiceKind os) l = (ps : List ChoiceOption) × (l ≡ ChoiceKind ps) × MadeOptions n k scope os ps
  KindForm n k scope (FieldKind x) l = (y : ClassFieldLayer) × (l ≡ FieldKind y)
  KindForm n k scope (ReferenceKind x) l = ⊥
  KindForm n k scope (SelectionKind x) l = ⊥
  KindForm n k scope kind l = l ≡ kind

  -- fewer than so many steps; an instance of `k` levels over `n` steps is one of `n + k`
  abbrev pub Before : ℕ → ℕ → Type 0
  Before j k = (d : ℕ) × (k + suc d ≡ j)

  abbrev pub MadeHead : ℕ → Place → Place → Type 0
  MadeHead j h k = (k.scope ≡ Empty) × ((n i : ℕ) × Before j (n + i) × KindForm n i h.scope (kind_of h) (kind_of k))

-- a head without parts, which means the same under all definitions
abbrev pub is_simple : Kind → Bool
is_simple (IntegerKind numbers) = true
is_simple (CharacterStringKind ty) = true
is_simple _ = false

module _ (C : Choices) (defs others : Definitions) where
  -- one place that means the same on both sides, or what an instance made of the other
  abbrev pub Alike : ℕ → Place → Place → Type 0
  Alike j h k = ((h ≡ k) × ((others ≡ defs) ⊎ (is_simple (kind_of h) ≡ true))) ⊎ MadeHead C defs j h k

-- What must hold of the values that are chosen, `M` in their scope and `L` in the empty one, by the other definitions: the value is ALL where the other
-- is, and where neither is they denote the same; the end of a range denotes the same.
pub record ValuesKept (C : Choices) (defs others : Definitions) (j : ℕ) (way : Way) (M L : Meaning) : Type 0 where
  pub all :
      (i : ℕ) (scope : Scope) (v w : ASN1Value) (p q : Place) → Before C defs j i → C.value (meaning defs i) scope v p ≡ Some w → Alike C defs others j p q →
      Refined way (M.is_all scope v p) (L.is_all Empty w q)
  pub single :
      (i : ℕ) (scope : Scope) (v w : ASN1Value) (p q : Place) → Before C defs j i → C.value (meaning defs i) scope v p ≡ Some w → Alike C defs others j p q →
      M.is_all scope v p ≡ No → L.is_all Empty w q ≡ No → Settled way (M.denotes scope v p) (L.denotes Empty w q)
  pub end :
      (i : ℕ) (scope : Scope) (v w : ASN1Value) (p q : Place) → Before C defs j i → C.end (meaning defs i) scope v p ≡ Some w → Alike C defs others j p q →
      Settled way (M.denotes scope v p) (L.denotes Empty w q)

-- That holds of all numbers of steps: within as many more as an instance takes it is known in the empty scope, and within
-- `steps_back` in the other.
abbrev pub KeepsValues : Choices → Definitions → Definitions → ℕ → Type 0
KeepsValues C defs others j = (n : ℕ) → ValuesKept C defs others j Forth (meaning defs n) (meaning others (n + j))

abbrev pub KeepsValuesBack : Choices → Definitions → Definitions → ℕ → Type 0
KeepsValuesBack C defs others j = (n d : ℕ) → ValuesKept C defs others j Back (meaning defs (d + steps_back j n)) (meaning others n)
