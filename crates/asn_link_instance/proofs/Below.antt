-- What is known of instances, of sets and of elements, where the types below are kept.
use Rattle.std.proofs.Common.{Bool, List, None, Option, Some, [], arith, subst, suc, sym, ℕ, ◌++◌, ◌+◌, ◌∷◌, ◌≡◌, ◌⊎◌}
use Rattle.asn_tree_kinds.specs.declared.constraints.SetOperator.{SetOperator}
use Rattle.asn_tree.specs.declared.constraints.Constraint.{Constraint}
use Rattle.asn_tree.specs.declared.constraints.ElementOrSetOperation.{ElementOrSetOperation}
use Rattle.asn_tree.specs.declared.constraints.SubtypeElement.{SubtypeElement}
use Rattle.asn_tree.specs.declared.types.ASN1Type.{ASN1Type, out-ASN1Type}
use Rattle.asn_tree.specs.declared.types.SequenceOrSetMember.{SequenceOrSetMember}
use Rattle.asn_meaning.specs.Accepts.{place}
use Rattle.asn_meaning.specs.Answers.{Answer, Unknown, Within, both, once}
use Rattle.asn_meaning.specs.Constraints.{all_hold}
use Rattle.asn_meaning.specs.Definitions.{Definitions}
use Rattle.asn_meaning.specs.Judge.{meaning, stands_for}
use Rattle.asn_meaning.specs.Layers.{StructLayer}
use Rattle.asn_meaning.specs.Meaning.{CharactersOf, Meaning, Member, Parent, ValuesOf}
use Rattle.asn_meaning.specs.Members.{written_member}
use Rattle.asn_meaning.specs.Names.{IsHead, IsLost, Lead, LeadsTo, head_at, lead}
use Rattle.asn_meaning.specs.Numbers.{Chain, Numbers}
use Rattle.asn_meaning.specs.Ranges.{narrowed_by_all, numbers_before}
use Rattle.asn_meaning.specs.Scopes.{Empty, Place, Scope, Target}
use Rattle.asn_meaning.specs.ValueTrees.{ValueTree}
use Rattle.asn_link_instance.specs.Heads.{Alike, Before, ValuesKept, constraints_made}
use Rattle.asn_link_instance.specs.Instance.{instance}
use Rattle.asn_link_instance.specs.Subjects.{Choices, OnCharacters, OnValues, Subject}
use Rattle.asn_link_instance.specs.Ways.{Back, Forth, Known, Refined, Way}
use Rattle.asn_link_instance.proofs.Falling.{FreeHeads}
use Rattle.asn_link_instance.proofs.Forms.{Beside, own}
use Rattle.asn_link_instance.proofs.Pairs.{Paired}

-- what a place accepts with the first of its constraints alone
abbrev pub accepts_upto : Definitions → Meaning → Place → List Constraint → ValueTree → Answer
accepts_upto defs L p cs t = both (stands_for L t p (lead defs L p)) (once Unknown (L.head p) (λ k. all_hold L p.scope k (numbers_before defs L p) cs t))

abbrev pub numbers_upto : Definitions → Meaning → Place → List Constraint → Option Numbers
numbers_upto defs L p cs = once None (L.head p) (λ k. narrowed_by_all L p.scope k (numbers_before defs L p) cs)

abbrev pub plain_members : Scope → Option ℕ → ℕ → List SequenceOrSetMember → List Member
plain_members scope marker number [] = []
plain_members scope marker number (w ∷ ws) = written_member scope marker number w ∷ plain_members scope marker (suc number) ws

-- what leads on by what an instance knew: where less may be known it may be lost
abbrev pub Led : Way → Lead → Target → Type 0
Led Forth a x = (a ≡ IsLost) ⊎ (a ≡ LeadsTo x)
Led Back a x = a ≡ LeadsTo x

-- what one side knows of a place the other knows of it too
pub record MoreBy (way : Way) (M L : Meaning) : Type 0 where
  pub head : (p : Place) → Known way (M.head p) (L.head p)
  pub members : (scope : Scope) (x : StructLayer) → Known way (M.members scope x) (L.members scope x)
  pub numbers : (p : Place) (cs : List Constraint) → Known way (M.numbers p cs) (L.numbers p cs)
  pub accepts : (p : Place) (cs : List Constraint) (t : ValueTree) → Refined way (M.accepts p cs t) (L.accepts p cs t)

module _ (C : Choices) (defs : Definitions) (j : ℕ) where
  -- a type in a scope, and its instance
  abbrev pub Instanced : Bool → Scope → ASN1Type → ASN1Type → Type 0
  Instanced down scope ty uy = (floor i : ℕ) × Before C defs j (floor + i) × ((instance C defs floor i).of_type down scope ty ≡ Some uy)

  -- constraints, and what is made of them: nothing where they fall away
  abbrev pub Constrained : Scope → Place → List Constraint → List Constraint → Type 0
  Constrained scope p cs ds = ((floor i : ℕ) × Before C defs j (floor + i) × (constraints_made C defs floor i scope p cs ≡ Some ds)) ⊎ ((ds ≡ []) × FreeHeads defs p)

  abbrev pub MadeElement : Scope → Subject → SubtypeElement → SubtypeElement → Type 0
  MadeElement scope s e f = (floor i : ℕ) × Before C defs j (floor + i) × ((instance C defs floor i).of_element scope s e ≡ Some f)

  abbrev pub MadeSet : Scope → Subject → ElementOrSetOperation → ElementOrSetOperation → Type 0
  MadeSet scope s x y = (floor i : ℕ) × Before C defs j (floor + i) × ((instance C defs floor i).of_set scope s x ≡ Some y)

  abbrev pub MadeOthers : Scope → Subject → List (SetOperator × SubtypeElement) → List (SetOperator × SubtypeElement) → Type 0
  MadeOthers scope s [] [] = Unit {0}
  MadeOthers scope s ((o, e) ∷ es) ((p, f) ∷ fs) = (p ≡ o) × MadeElement scope s e f × MadeOthers scope s es fs
  MadeOthers scope s _ _ = ⊥

  abbrev pub MadeChain : Scope → Subject → Chain → Chain → Type 0
  MadeChain scope s c d = MadeElement scope s c.first d.first × MadeOthers scope s c.others d.others

module _ (C : Choices) (defs others : Definitions) (j : ℕ) where
  -- the parents that a constraint on such a subject is asked of
  abbrev pub IsOf : Way → Subject → Parent → Parent → Type 0
  IsOf way (OnValues h) (ValuesOf p x) b = (p ≡ h) × ((k : Place) × (y : Option Numbers) × (b ≡ ValuesOf k y) × Alike C defs others j h k × Known way x y)
  IsOf way (OnValues h) (CharactersOf c) b = ⊥
  IsOf way OnCharacters (ValuesOf p x) b = ⊥
  IsOf way OnCharacters (CharactersOf c) b = b ≡ CharactersOf c

  pub by_subject : (way : Way) (P : Subject → Parent → Parent → Type 0) → ((h k : Place) (x y : Option Numbers) → Alike C defs others j h k → Known way x y → P (OnValues h) (ValuesOf h x) (ValuesOf k y)) →
      ((c : Numbers) → P OnCharacters (CharactersOf c) (CharactersOf c)) → (s : Subject) (a b : Parent) → IsOf way s a b → P s a b
  by_subject way P f g (OnValues h) (ValuesOf p x) b (e, (k, y, u, l, w)) = subst (λ z. P (OnValues h) (ValuesOf z x) b) (sym e) (subst (λ z. P (OnValues h) (ValuesOf h x) z) (sym u) (f h k x y l w))
  by_subject way P f g (OnValues h) (CharactersOf c) b q = absurd q
  by_subject way P f g OnCharacters (ValuesOf p x) b q = absurd q
  by_subject way P f g OnCharacters (CharactersOf c) b q = subst (λ z. P OnCharacters (CharactersOf c) z) (sym q) (g c)

  -- The types within so many steps are kept: `M` knows of the types in their scopes, `L` of the instances.
  pub record Below (way : Way) (M L : Meaning) : Type 0 where
    pub more : others ≡ defs → MoreBy way M L
    pub known : (n : ℕ) × (M ≡ meaning defs n)
    pub same_head : (i : ℕ) → Before C defs j i → (p g h : Place) → (meaning defs i).head p ≡ Some g → M.head p ≡ Some h → g ≡ h
    pub same_members : (i : ℕ) → Before C defs j i → (scope : Scope) (x : StructLayer) (ms ns : List Member) → (meaning defs i).members scope x ≡ Some ms → M.members scope x ≡ Some ns → ms ≡ ns
    pub led : (i : ℕ) → Before C defs j i → (p : Place) (x : Target) → lead defs (meaning defs i) p ≡ LeadsTo x → Led way (lead defs M p) x
    pub heads_own : (p : Place) → ((N : Meaning) → lead others N p ≡ IsHead) → Within (L.head p) (Some p)
    pub members_own : (i : ℕ) → Before C defs j i → (scope : Scope) (x y : StructLayer) (ms : List Member) → (meaning defs i).members scope x ≡ Some ms → y.components_of ≡ [] →
        Paired way (λ ns ws. (ms ≡ ns) × (plain_members Empty y.extensible 0 y.members ≡ ws)) (M.members scope x) (L.members Empty y)
    pub values : ValuesKept C defs others j way M L
    pub head : (down : Bool) (scope : Scope) (ty uy ry : ASN1Type) → Instanced C defs j down scope ty uy → Beside (out-ASN1Type uy) (out-ASN1Type ry) →
        Paired way (λ h k. Alike C defs others j h k) (M.head (place scope ty)) (L.head (place Empty ry))
    pub numbers : (down : Bool) (scope : Scope) (ty uy : ASN1Type) (cs ds : List Constraint) → Instanced C defs j down scope ty uy → Constrained C defs j scope (place scope ty) cs ds →
        Known way (M.numbers (place scope ty) cs) (L.numbers (place Empty uy) ds)
    pub accepts : (down : Bool) (scope : Scope) (ty uy : ASN1Type) (cs ds : List Constraint) (t : ValueTree) → Instanced C defs j down scope ty uy → Constrained C defs j scope (place scope ty) cs ds →
        Refined way (M.accepts (place scope ty) cs t) (L.accepts (place Empty uy) ds t)
    pub chain : (scope : Scope) (s : Subject) (x y : ElementOrSetOperation) → MadeSet C defs j scope s x y → Paired way (λ c d. MadeChain C defs j scope s c d) (M.chain x) (L.chain y)
    pub holds : (scope : Scope) (s : Subject) (a b : Parent) (e f : SubtypeElement) (t : ValueTree) → MadeElement C defs j scope s e f → IsOf way s a b → Refined way (M.holds scope a e t) (L.holds Empty b f t)

  -- Types whose instances took this many levels are kept too where only the first constraints are asked of a type beside the
  -- instance, by what `L` tells in one step more.
  pub record First (way : Way) (M L : Meaning) (floor i : ℕ) : Type 0 where
    pub head : (down : Bool) (scope : Scope) (ty uy ry : ASN1Type) → (instance C defs floor i).of_type down scope ty ≡ Some uy → Beside (out-ASN1Type uy) (out-ASN1Type ry) →
        Paired way (λ h k. Alike C defs others j h k) (M.head (place scope ty)) (head_at others L (place Empty ry))
    pub numbers : (down : Bool) (scope : Scope) (ty uy ry : ASN1Type) (cs ds : List Constraint) → (instance C defs floor i).of_type down scope ty ≡ Some uy → Beside (out-ASN1Type uy) (out-ASN1Type ry) →
        Constrained C defs j scope (place scope ty) cs ds → Known way (M.numbers (place scope ty) cs) (numbers_upto others L (place Empty ry) (own (out-ASN1Type uy) ++ ds))
    pub accepts : (down : Bool) (scope : Scope) (ty uy ry : ASN1Type) (cs ds : List Constraint) (t : ValueTree) → (instance C defs floor i).of_type down scope ty ≡ Some uy → Beside (out-ASN1Type uy) (out-ASN1Type ry) →
        Constrained C defs j scope (place scope ty) cs ds → Refined way (M.accepts (place scope ty) cs t) (accepts_upto others L (place Empty ry) (own (out-ASN1Type uy) ++ ds) t)

-- the steps of an instance are fewer too
pub floor_before : (C : Choices) (defs : Definitions) (j floor i : ℕ) → Before C defs j (floor + i) → Before C defs j floor
floor_before C defs j floor i (d, e) = (d + i, omega (arith, e))

-- one level fewer
pub fewer : (C : Choices) (defs : Definitions) (j floor i : ℕ) → Before C defs j (floor + suc i) → Before C defs j (floor + i)
fewer C defs j floor i (d, e) = (suc d, omega (arith, e))
