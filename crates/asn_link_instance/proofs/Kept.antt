-- Substitution equals look-up, and back.
use Rattle.std.proofs.Common.{Bool, List, None, Option, Some, [], ap, arith, false, inl, inr, refl, subst, suc, sym, true, zero, ℕ, ◌++◌, ◌+◌, ◌↔◌, ◌∙◌, ◌∷◌, ◌≡◌}
use Rattle.asn_tree.specs.declared.constraints.Constraint.{Constraint}
use Rattle.asn_tree.specs.declared.constraints.ElementOrSetOperation.{ElementOrSetOperation}
use Rattle.asn_tree.specs.declared.constraints.SubtypeElement.{SubtypeElement}
use Rattle.asn_tree.specs.declared.definitions.Parameterization.{Parameterization}
use Rattle.asn_tree.specs.declared.definitions.ToplevelTypeDefinition.{ToplevelTypeDefinition}
use Rattle.asn_tree.specs.declared.types.ASN1Type.{ASN1Type, out-ASN1Type}
use Rattle.asn_tree.specs.declared.types.SequenceOrSetMember.{SequenceOrSetMember}
use Rattle.asn_meaning.specs.Accepts.{Accepts, Rejects, judge, place}
use Rattle.asn_meaning.specs.Answers.{Answer, No, Refines, Unknown, Within, Yes, once}
use Rattle.asn_meaning.specs.Definitions.{Definitions, type_named}
use Rattle.asn_meaning.specs.Judge.{meaning, nothing_known, step}
use Rattle.asn_meaning.specs.Layers.{StructLayer}
use Rattle.asn_meaning.specs.Meaning.{Meaning, Member, Parent}
use Rattle.asn_meaning.specs.Members.{and_then, members_from, put_in, written_member}
use Rattle.asn_meaning.specs.Names.{head_at, lead}
use Rattle.asn_meaning.specs.Scopes.{Empty, Place, Scope, Target, bare}
use Rattle.asn_meaning.specs.ValueTrees.{ValueTree}
use Rattle.asn_meaning.proofs.Answering.{both_refines, once_refines, once_within, one_of, refines_through, same_within, within_through}
use Rattle.asn_meaning.proofs.More.{More, head_at_more, lead_more}
use Rattle.asn_meaning.proofs.MoreConstraints.{all_hold_more}
use Rattle.asn_meaning.proofs.MoreRanges.{narrowed_by_all_more, numbers_before_more}
use Rattle.asn_meaning.proofs.Steps.{more_known, one_more, stands_more}
use Rattle.asn_link_instance.specs.Heads.{Alike, Before, KeepsValues, KeepsValuesBack, ValuesKept}
use Rattle.asn_link_instance.specs.Instance.{instance}
use Rattle.asn_link_instance.specs.Linked.{LinkedBy, LinkedTarget, SameOrLinked, plain_target}
use Rattle.asn_link_instance.specs.Subjects.{Choices, Subject}
use Rattle.asn_link_instance.specs.Ways.{Back, Forth, Known, Refined, steps_back}
use Rattle.asn_link_instance.proofs.Below.{Below, Constrained, First, Instanced, IsOf, MadeChain, MadeElement, MadeSet, MoreBy, accepts_upto, fewer, numbers_upto, plain_members}
use Rattle.asn_link_instance.proofs.Falling.{heads_within, leads_back, leads_later, no_type}
use Rattle.asn_link_instance.proofs.Forms.{Beside, own, same_beside}
use Rattle.asn_link_instance.proofs.Holding.{some_same}
use Rattle.asn_link_instance.proofs.KeptElements.{element_holds}
use Rattle.asn_link_instance.proofs.KeptSteps.{chain_made, made_accepts, made_numbers, type_head}
use Rattle.asn_link_instance.proofs.KeptTypes.{viewed}
use Rattle.asn_link_instance.proofs.Pairs.{Paired}
use Rattle.asn_meaning.specs.Names as names

-- ---- more is known of the first constraints too

module _ (defs : Definitions) (M N : Meaning) (m : More M N) where
  upto_more : (p : Place) (cs : List Constraint) (t : ValueTree) → Refines (accepts_upto defs M p cs t) (accepts_upto defs N p cs t)
  upto_more p cs t =
      both_refines _ _ _ _ (stands_more M N m t p _ _ (lead_more M N m defs p))
      (once_refines _ _ _ _ (m.head p) (λ head. all_hold_more M N m p.scope head _ _ cs t (numbers_before_more M N m defs p)))

  numbers_more : (p : Place) (cs : List Constraint) → Within (numbers_upto defs M p cs) (numbers_upto defs N p cs)
  numbers_more p cs = once_within _ _ _ _ (m.head p) (λ head. narrowed_by_all_more M N m p.scope head _ _ cs (numbers_before_more M N m defs p))

-- ---- members that lead nowhere

plain_from : (N : Meaning) (y : StructLayer) (number : ℕ) (ws : List SequenceOrSetMember) → y.components_of ≡ [] → members_from N Empty y number ws ≡ Some (plain_members Empty y.extensible number ws)
plain_from N y number [] e = ap (λ z. put_in N Empty number z y.components_at) e
plain_from N y number (w ∷ ws) e =
    ap (λ z. and_then z (and_then (Some (written_member Empty y.extensible number w ∷ [])) (members_from N Empty y (suc number) ws))) (ap (λ z. put_in N Empty number z y.components_at) e)
    ∙ ap (λ z. and_then (Some []) (and_then (Some (written_member Empty y.extensible number w ∷ [])) z)) (plain_from N y (suc number) ws e)

step_members : (defs : Definitions) (N : Meaning) (y : StructLayer) → y.components_of ≡ [] → (step defs N).members Empty y ≡ Some (plain_members Empty y.extensible 0 y.members)
unfolding step
step_members defs N y e = plain_from N y 0 y.members e

members_within : (defs : Definitions) (n : ℕ) (y : StructLayer) → y.components_of ≡ [] → Within ((meaning defs n).members Empty y) (Some (plain_members Empty y.extensible 0 y.members))
unfolding meaning nothing_known
members_within defs zero y e = tt
members_within defs (suc n) y e = subst (λ z. Within z (Some (plain_members Empty y.extensible 0 y.members))) (sym (step_members defs (meaning defs n) y e)) refl

members_forth : (a c : Option (List Member)) (ms ws : List Member) → ((ns : List Member) → a ≡ Some ns → ms ≡ ns) → c ≡ Some ws → Paired Forth (λ ns vs. (ms ≡ ns) × (ws ≡ vs)) a c
members_forth None c ms ws f e = tt
members_forth (Some ns) c ms ws f e = (ws, e, (f ns refl, refl))

members_back : (a c : Option (List Member)) (ms ws : List Member) → a ≡ Some ms → Within c (Some ws) → Paired Back (λ ns vs. (ms ≡ ns) × (ws ≡ vs)) a c
members_back a None ms ws e w = tt
members_back a (Some vs) ms ws e w = (ms, e, (refl, some_same ws vs w))

-- ---- steps

grown : (defs : Definitions) (a b d : ℕ) → a + d ≡ b → More (meaning defs a) (meaning defs b)
grown defs a b d e = subst (λ z. More (meaning defs a) (meaning defs z)) e (more_known defs a d)

nothing_head : (defs : Definitions) (p : Place) → (meaning defs zero).head p ≡ None
unfolding meaning nothing_known
nothing_head defs p = refl

nothing_numbers : (defs : Definitions) (p : Place) (cs : List Constraint) → (meaning defs zero).numbers p cs ≡ None
unfolding meaning nothing_known
nothing_numbers defs p cs = refl

nothing_accepts : (defs : Definitions) (p : Place) (cs : List Constraint) (t : ValueTree) → (meaning defs zero).accepts p cs t ≡ Unknown
unfolding meaning nothing_known
nothing_accepts defs p cs t = refl

nothing_chain : (defs : Definitions) (x : ElementOrSetOperation) → (meaning defs zero).chain x ≡ None
unfolding meaning nothing_known
nothing_chain defs x = refl

nothing_holds : (defs : Definitions) (scope : Scope) (a : Parent) (e : SubtypeElement) (t : ValueTree) → (meaning defs zero).holds scope a e t ≡ Unknown
unfolding meaning nothing_known
nothing_holds defs scope a e t = refl

paired_later : {A B : Type 0} (R : A → B → Type 0) (a : Option A) (b c : Option B) → Paired Forth R a b → Within b c → Paired Forth R a c
paired_later R None b c p w = tt
paired_later R (Some x) b c (y, e, r) w = (y, subst (λ z. Within z c) e w, r)

-- ---- what is known of instances, so many steps ahead

unfoldable right : Definitions → ℕ → ℕ → Meaning
right defs j zero = meaning defs j
right defs j (suc n) = step defs (right defs j n)

right_is : (defs : Definitions) (j n : ℕ) → right defs j n ≡ meaning defs (n + j)
unfolding right meaning
right_is defs j zero = let e : zero + j ≡ j = omega arith in ap (meaning defs) (sym e)
right_is defs j (suc n) = let e : suc n + j ≡ suc (n + j) = omega arith in ap (step defs) (right_is defs j n) ∙ ap (meaning defs) (sym e)

-- it is one step further than something
ahead : (defs : Definitions) (i n : ℕ) → (N : Meaning) × (right defs (suc i) n ≡ step defs N)
unfolding right meaning
ahead defs i zero = (meaning defs i, refl)
ahead defs i (suc n) = (right defs (suc i) n, refl)

module _ (C : Choices) (defs others : Definitions) (k : ℕ) (linked : SameOrLinked C defs others (suc k)) (values : KeepsValues C defs others (suc k)) where
  abbrev j : ℕ
  j = suc k

  abbrev Lower : ℕ → Type 0
  Lower n = Below C defs others j Forth (meaning defs n) (right others j n)

  abbrev Firsts : ℕ → Type 0
  Firsts n = (floor i : ℕ) → Before C defs j (floor + i) → First C defs others j Forth (meaning defs n) (right others j n) floor i

  knows : (n : ℕ) → others ≡ defs → MoreBy Forth (meaning defs n) (right others j n)
  knows n same =
      let m : More (meaning defs n) (right others j n) = subst (λ z. More (meaning defs n) (right z j n)) (sym same) (subst (λ z. More (meaning defs n) z) (sym (right_is defs j n)) (more_known defs n j)) in
      record { head = m.head; members = m.members; numbers = m.numbers; accepts = m.accepts }

  knows_next : (n : ℕ) → More (right others j n) (step others (right others j n))
  unfolding meaning
  knows_next n = subst (λ z. More z (step others z)) (sym (right_is others j n)) (one_more others (n + j))

  -- what both are within
  left_sum : (n i : ℕ) → More (meaning defs i) (meaning defs (n + i))
  left_sum n i = let e : i + n ≡ n + i = omega arith in grown defs i (n + i) n e

  right_sum : (n i : ℕ) → More (meaning defs n) (meaning defs (n + i))
  right_sum n i = more_known defs n i

  members_forth_own : (n i : ℕ) → Before C defs j i → (scope : Scope) (x y : StructLayer) (ms : List Member) → (meaning defs i).members scope x ≡ Some ms → y.components_of ≡ [] →
      Paired Forth (λ ns ws. (ms ≡ ns) × (plain_members Empty y.extensible 0 y.members ≡ ws)) ((meaning defs n).members scope x) ((right others j n).members Empty y)
  members_forth_own n i before scope x y ms e f =
      let a = ahead others k n in
      members_forth _ _ ms (plain_members Empty y.extensible 0 y.members)
      (λ ns g. one_of ((meaning defs i).members scope x) ((meaning defs n).members scope x) ((meaning defs (n + i)).members scope x) ms ns ((left_sum n i).members scope x) ((right_sum n i).members scope x) e g)
      (subst (λ z. z.members Empty y ≡ Some (plain_members Empty y.extensible 0 y.members)) (sym a.1) (step_members others a.0 y f))

  lower : (n : ℕ) →
      ((down : Bool) (scope : Scope) (ty uy ry : ASN1Type) → Instanced C defs j down scope ty uy → Beside (out-ASN1Type uy) (out-ASN1Type ry) →
      Paired Forth (λ h k. Alike C defs others j h k) ((meaning defs n).head (place scope ty)) ((right others j n).head (place Empty ry))) →
      ((down : Bool) (scope : Scope) (ty uy : ASN1Type) (cs ds : List Constraint) → Instanced C defs j down scope ty uy → Constrained C defs j scope (place scope ty) cs ds →
      Known Forth ((meaning defs n).numbers (place scope ty) cs) ((right others j n).numbers (place Empty uy) ds)) →
      ((down : Bool) (scope : Scope) (ty uy : ASN1Type) (cs ds : List Constraint) (t : ValueTree) → Instanced C defs j down scope ty uy → Constrained C defs j scope (place scope ty) cs ds →
      Refined Forth ((meaning defs n).accepts (place scope ty) cs t) ((right others j n).accepts (place Empty uy) ds t)) →
      ((scope : Scope) (s : Subject) (x y : ElementOrSetOperation) → MadeSet C defs j scope s x y → Paired Forth (λ c d. MadeChain C defs j scope s c d) ((meaning defs n).chain x) ((right others j n).chain y)) →
      ((scope : Scope) (s : Subject) (a b : Parent) (e f : SubtypeElement) (t : ValueTree) → MadeElement C defs j scope s e f → IsOf C defs others j Forth s a b → Refined Forth ((meaning defs n).holds scope a e t) ((right others j n).holds Empty b f t)) → Lower n
  lower n heads numbers accepts chains holds = record {
    more = knows n;
    known = (n, refl);
    same_head = λ i before p g h e f. one_of ((meaning defs i).head p) ((meaning defs n).head p) ((meaning defs (n + i)).head p) g h ((left_sum n i).head p) ((right_sum n i).head p) e f;
    same_members = λ i before scope x ms ns e f. one_of ((meaning defs i).members scope x) ((meaning defs n).members scope x) ((meaning defs (n + i)).members scope x) ms ns ((left_sum n i).members scope x) ((right_sum n i).members scope x) e f;
    led = λ i before p x e. leads_back (lead defs (meaning defs n) p) (lead defs (meaning defs (n + i)) p) x (lead_more (meaning defs n) (meaning defs (n + i)) (right_sum n i) defs p)
        (leads_later (lead defs (meaning defs i) p) (lead defs (meaning defs (n + i)) p) x (lead_more (meaning defs i) (meaning defs (n + i)) (left_sum n i) defs p) e);
    heads_own = λ p f. subst (λ z. Within (z.head p) (Some p)) (sym (right_is others j n)) (heads_within others (n + j) p f);
    members_own = members_forth_own n;
    values = subst (λ z. ValuesKept C defs others j Forth (meaning defs n) z) (sym (right_is others j n)) (values n);
    head = heads;
    numbers = numbers;
    accepts = accepts;
    chain = chains;
    holds = holds;
  }

  lower_zero : Lower zero
  lower_zero = lower zero
      (λ down scope ty uy ry m s. subst (λ z. Paired Forth (λ h k. Alike C defs others j h k) z ((right others j zero).head (place Empty ry))) (sym (nothing_head defs (place scope ty))) tt)
      (λ down scope ty uy cs ds m c. subst (λ z. Known Forth z ((right others j zero).numbers (place Empty uy) ds)) (sym (nothing_numbers defs (place scope ty) cs)) tt)
      (λ down scope ty uy cs ds t m c. subst (λ z. Refined Forth z ((right others j zero).accepts (place Empty uy) ds t)) (sym (nothing_accepts defs (place scope ty) cs t)) tt)
      (λ scope s x y m. subst (λ z. Paired Forth (λ c d. MadeChain C defs j scope s c d) z ((right others j zero).chain y)) (sym (nothing_chain defs x)) tt)
      (λ scope s a b e f t m o. subst (λ z. Refined Forth z ((right others j zero).holds Empty b f t)) (sym (nothing_holds defs scope a e t)) tt)

  firsts_zero : Firsts zero
  firsts_zero floor i before = record {
    head = λ down scope ty uy ry e s. subst (λ z. Paired Forth (λ h k. Alike C defs others j h k) z (head_at others (right others j zero) (place Empty ry))) (sym (nothing_head defs (place scope ty))) tt;
    numbers = λ down scope ty uy ry cs ds e s c. subst (λ z. Known Forth z (numbers_upto others (right others j zero) (place Empty ry) (own (out-ASN1Type uy) ++ ds))) (sym (nothing_numbers defs (place scope ty) cs)) tt;
    accepts = λ down scope ty uy ry cs ds t e s c. subst (λ z. Refined Forth z (accepts_upto others (right others j zero) (place Empty ry) (own (out-ASN1Type uy) ++ ds) t)) (sym (nothing_accepts defs (place scope ty) cs t)) tt;
  }

  module _ (n : ℕ) (b : Lower n) (firsts : Firsts n) where
    -- one step further, asked of a type beside the instance
    next_first : (floor i : ℕ) → Before C defs j (floor + i) → First C defs others j Forth (step defs (meaning defs n)) (right others j n) floor i
    unfolding step
    next_first floor zero before = record {
      head = λ down scope ty uy ry e s. absurd (no_type C defs floor down scope ty uy e);
      numbers = λ down scope ty uy ry cs ds e s c. absurd (no_type C defs floor down scope ty uy e);
      accepts = λ down scope ty uy ry cs ds t e s c. absurd (no_type C defs floor down scope ty uy e);
    }
    next_first floor (suc i) before =
        let less = fewer C defs j floor i before in
        record {
          head = λ down scope ty uy ry e s. type_head C defs others j Forth (meaning defs n) (right others j n) b floor i less (firsts floor i less) down scope ty uy ry (floor, suc i, before, e) s (viewed C defs others j linked floor i down scope ty uy e);
          numbers = λ down scope ty uy ry cs ds e s c. made_numbers C defs others j Forth (meaning defs n) (right others j n) b floor i less (firsts floor i less) down scope ty uy ry (floor, suc i, before, e) s cs ds c (viewed C defs others j linked floor i down scope ty uy e);
          accepts = λ down scope ty uy ry cs ds t e s c. made_accepts C defs others j Forth (meaning defs n) (right others j n) b floor i less (firsts floor i less) down scope ty uy ry (floor, suc i, before, e) s cs ds c t (viewed C defs others j linked floor i down scope ty uy e);
        }

    lower_next : Lower (suc n)
    unfolding meaning step right
    lower_next = lower (suc n)
        (λ down scope ty uy ry m s. (next_first m.0 m.1 m.2).head down scope ty uy ry m.3 s)
        (λ down scope ty uy cs ds m c. (next_first m.0 m.1 m.2).numbers down scope ty uy uy cs ds m.3 (same_beside (out-ASN1Type uy)) c)
        (λ down scope ty uy cs ds t m c. (next_first m.0 m.1 m.2).accepts down scope ty uy uy cs ds t m.3 (same_beside (out-ASN1Type uy)) c)
        (λ scope s x y m. chain_made C defs others j Forth (meaning defs n) (right others j n) b scope s x y m)
        (λ scope s p q e f t m o. element_holds C defs others j Forth (meaning defs n) (right others j n) b scope s p q e f t m o)

    firsts_next : Firsts (suc n)
    unfolding meaning step right
    firsts_next floor i before =
        let f = next_first floor i before in
        let L = right others j n in
        record {
          head = λ down scope ty uy ry e s. paired_later (λ h k. Alike C defs others j h k) _ _ _ (f.head down scope ty uy ry e s) (head_at_more L (step others L) (knows_next n) others (place Empty ry));
          numbers = λ down scope ty uy ry cs ds e s c. within_through _ _ _ (f.numbers down scope ty uy ry cs ds e s c) (numbers_more others L (step others L) (knows_next n) (place Empty ry) (own (out-ASN1Type uy) ++ ds));
          accepts = λ down scope ty uy ry cs ds t e s c. refines_through _ _ _ (f.accepts down scope ty uy ry cs ds t e s c) (upto_more others L (step others L) (knows_next n) (place Empty ry) (own (out-ASN1Type uy) ++ ds) t);
        }

  forth : (n : ℕ) → Lower n × Firsts n
  forth zero = (lower_zero, firsts_zero)
  forth (suc n) = let f = forth n in (lower_next n f.0 f.1, firsts_next n f.0 f.1)

pub below_forth : (C : Choices) (defs others : Definitions) (k : ℕ) → SameOrLinked C defs others (suc k) → KeepsValues C defs others (suc k) → (n : ℕ) → Below C defs others (suc k) Forth (meaning defs n) (meaning others (n + suc k))
below_forth C defs others k linked values n = subst (λ z. Below C defs others (suc k) Forth (meaning defs n) z) (right_is others (suc k) n) (forth C defs others k linked values n).0

-- ---- back

pub steps_more : (j n : ℕ) → steps_back j (suc n) ≡ j + steps_back j n
unfolding steps_back
steps_more j n = refl

steps_none : (j : ℕ) → steps_back j zero ≡ j
unfolding steps_back
steps_none j = refl

-- no fewer than an instance took
pub steps_enough : (j n : ℕ) → (d : ℕ) × (d + j ≡ steps_back j n)
steps_enough j zero = let e : zero + j ≡ j = omega arith in (zero, e ∙ sym (steps_none j))
steps_enough j (suc n) =
    let p = steps_enough j n in
    let e : steps_back j n + j ≡ j + steps_back j n = omega arith in
    (steps_back j n, e ∙ sym (steps_more j n))

module _ (C : Choices) (defs others : Definitions) (k : ℕ) (linked : SameOrLinked C defs others (suc k)) (values : KeepsValuesBack C defs others (suc k)) where
  abbrev beyond : ℕ
  beyond = suc k

  abbrev Enough : ℕ → ℕ → Type 0
  Enough n m = (d : ℕ) × (d + steps_back beyond n ≡ m)

  abbrev Upper : ℕ → ℕ → Type 0
  Upper n m = Below C defs others beyond Back (meaning defs m) (meaning others n)

  knows_back : (n m : ℕ) → Enough n m → More (meaning defs n) (meaning defs m)
  knows_back n m (d, e) =
      let q = steps_over n in
      let f : n + (q.0 + d) ≡ m = omega (arith, e, q.1) in
      grown defs n m (q.0 + d) f
    where
      steps_over : (n : ℕ) → (q : ℕ) × (n + q ≡ steps_back beyond n)
      steps_over zero = let e : zero + beyond ≡ beyond = omega arith in (beyond, e ∙ sym (steps_none beyond))
      steps_over (suc n) =
          let p = steps_over n in
          let e : suc n + (k + p.0) ≡ beyond + steps_back beyond n = omega (arith, p.1) in
          (k + p.0, e ∙ sym (steps_more beyond n))

  knows_instance : (n m i : ℕ) → Enough n m → Before C defs beyond i → More (meaning defs i) (meaning defs m)
  knows_instance n m i (d, e) (c, f) =
      let q = steps_enough beyond n in
      let g : i + (suc c + (q.0 + d)) ≡ m = omega (arith, e, f, q.1) in
      grown defs i m (suc c + (q.0 + d)) g

  values_back : (n m : ℕ) → Enough n m → ValuesKept C defs others beyond Back (meaning defs m) (meaning others n)
  values_back n m (d, e) = subst (λ z. ValuesKept C defs others beyond Back (meaning defs z) (meaning others n)) e (values n d)

  found_members : (n m i : ℕ) → Enough n m → Before C defs beyond i → (scope : Scope) (x : StructLayer) (ms : List Member) → (meaning defs i).members scope x ≡ Some ms → (meaning defs m).members scope x ≡ Some ms
  found_members n m i enough before scope x ms e = subst (λ z. Within z ((meaning defs m).members scope x)) e ((knows_instance n m i enough before).members scope x)

  upper : (n m : ℕ) → Enough n m →
      ((down : Bool) (scope : Scope) (ty uy ry : ASN1Type) → Instanced C defs beyond down scope ty uy → Beside (out-ASN1Type uy) (out-ASN1Type ry) →
      Paired Back (λ h k. Alike C defs others beyond h k) ((meaning defs m).head (place scope ty)) ((meaning others n).head (place Empty ry))) →
      ((down : Bool) (scope : Scope) (ty uy : ASN1Type) (cs ds : List Constraint) → Instanced C defs beyond down scope ty uy → Constrained C defs beyond scope (place scope ty) cs ds →
      Known Back ((meaning defs m).numbers (place scope ty) cs) ((meaning others n).numbers (place Empty uy) ds)) →
      ((down : Bool) (scope : Scope) (ty uy : ASN1Type) (cs ds : List Constraint) (t : ValueTree) → Instanced C defs beyond down scope ty uy → Constrained C defs beyond scope (place scope ty) cs ds →
      Refined Back ((meaning defs m).accepts (place scope ty) cs t) ((meaning others n).accepts (place Empty uy) ds t)) →
      ((scope : Scope) (s : Subject) (x y : ElementOrSetOperation) → MadeSet C defs beyond scope s x y → Paired Back (λ c d. MadeChain C defs beyond scope s c d) ((meaning defs m).chain x) ((meaning others n).chain y)) →
      ((scope : Scope) (s : Subject) (a b : Parent) (e f : SubtypeElement) (t : ValueTree) → MadeElement C defs beyond scope s e f → IsOf C defs others beyond Back s a b → Refined Back ((meaning defs m).holds scope a e t) ((meaning others n).holds Empty b f t)) → Upper n m
  upper n m enough heads numbers accepts chains holds =
      record {
        more = λ same.
            let known : More (meaning others n) (meaning defs m) = subst (λ z. More (meaning z n) (meaning defs m)) (sym same) (knows_back n m enough) in
            record { head = known.head; members = known.members; numbers = known.numbers; accepts = known.accepts };
        known = (m, refl);
        same_head = λ i before p g h e f. one_of ((meaning defs i).head p) ((meaning defs m).head p) ((meaning defs m).head p) g h ((knows_instance n m i enough before).head p) (same_within _) e f;
        same_members = λ i before scope x ms ns e f. one_of ((meaning defs i).members scope x) ((meaning defs m).members scope x) ((meaning defs m).members scope x) ms ns ((knows_instance n m i enough before).members scope x) (same_within _) e f;
        led = λ i before p x e. leads_later (lead defs (meaning defs i) p) (lead defs (meaning defs m) p) x (lead_more (meaning defs i) (meaning defs m) (knows_instance n m i enough before) defs p) e;
        heads_own = heads_within others n;
        members_own = λ i before scope x y ms e f. members_back _ _ ms (plain_members Empty y.extensible 0 y.members) (found_members n m i enough before scope x ms e) (members_within others n y f);
        values = values_back n m enough;
        head = heads;
        numbers = numbers;
        accepts = accepts;
        chain = chains;
        holds = holds;
      }

  upper_zero : (m : ℕ) → Enough zero m → Upper zero m
  upper_zero m enough = upper zero m enough
      (λ down scope ty uy ry i s. subst (λ z. Paired Back (λ h k. Alike C defs others beyond h k) ((meaning defs m).head (place scope ty)) z) (sym (nothing_head others (place Empty ry))) tt)
      (λ down scope ty uy cs ds i c. subst (λ z. Known Back ((meaning defs m).numbers (place scope ty) cs) z) (sym (nothing_numbers others (place Empty uy) ds)) tt)
      (λ down scope ty uy cs ds t i c. subst (λ z. Refined Back ((meaning defs m).accepts (place scope ty) cs t) z) (sym (nothing_accepts others (place Empty uy) ds t)) tt)
      (λ scope s x y i. subst (λ z. Paired Back (λ c d. MadeChain C defs beyond scope s c d) ((meaning defs m).chain x) z) (sym (nothing_chain others y)) tt)
      (λ scope s a b e f t i o. subst (λ z. Refined Back ((meaning defs m).holds scope a e t) z) (sym (nothing_holds others Empty b f t)) tt)

  module _ (n : ℕ) (uppers : (m : ℕ) → Enough n m → Upper n m) where
    -- types whose instances took `i` levels, each name within one step more
    back_first : (floor i m : ℕ) → Before C defs beyond (floor + i) → (d : ℕ) → d + i + steps_back beyond n ≡ m → First C defs others beyond Back (meaning defs m) (meaning others n) floor i
    unfolding meaning step
    back_first floor zero m before d e = record {
      head = λ down scope ty uy ry e s. absurd (no_type C defs floor down scope ty uy e);
      numbers = λ down scope ty uy ry cs ds e s c. absurd (no_type C defs floor down scope ty uy e);
      accepts = λ down scope ty uy ry cs ds t e s c. absurd (no_type C defs floor down scope ty uy e);
    }
    back_first floor (suc i) zero before d e = absurd (omega (arith, e))
    back_first floor (suc i) (suc m) before d e =
        let less = fewer C defs beyond floor i before in
        let f : d + i + steps_back beyond n ≡ m = omega (arith, e) in
        let b = uppers m (d + i, f) in
        let first = back_first floor i m less d f in
        record {
          head = λ down scope ty uy ry e s. type_head C defs others beyond Back (meaning defs m) (meaning others n) b floor i less first down scope ty uy ry (floor, suc i, before, e) s (viewed C defs others beyond linked floor i down scope ty uy e);
          numbers = λ down scope ty uy ry cs ds e s c. made_numbers C defs others beyond Back (meaning defs m) (meaning others n) b floor i less first down scope ty uy ry (floor, suc i, before, e) s cs ds c (viewed C defs others beyond linked floor i down scope ty uy e);
          accepts = λ down scope ty uy ry cs ds t e s c. made_accepts C defs others beyond Back (meaning defs m) (meaning others n) b floor i less first down scope ty uy ry (floor, suc i, before, e) s cs ds c t (viewed C defs others beyond linked floor i down scope ty uy e);
        }

    first_at : (m floor i : ℕ) → Enough (suc n) m → Before C defs beyond (floor + i) → First C defs others beyond Back (meaning defs m) (meaning others n) floor i
    first_at m floor i (d, e) (c, f) =
        let g : (d + suc (c + floor)) + i + steps_back beyond n ≡ m = omega (arith, e, f, steps_more beyond n) in
        back_first floor i m (c, f) (d + suc (c + floor)) g

    upper_next : (m : ℕ) → Enough (suc n) m → Upper (suc n) m
    unfolding meaning step
    upper_next zero (d, e) = absurd (omega (arith, e, steps_more beyond n))
    upper_next (suc m) (d, e) =
        let f : (d + k) + steps_back beyond n ≡ m = omega (arith, e, steps_more beyond n) in
        let b = uppers m (d + k, f) in
        upper (suc n) (suc m) (d, e)
        (λ down scope ty uy ry i s. (first_at (suc m) i.0 i.1 (d, e) i.2).head down scope ty uy ry i.3 s)
        (λ down scope ty uy cs ds i c. (first_at (suc m) i.0 i.1 (d, e) i.2).numbers down scope ty uy uy cs ds i.3 (same_beside (out-ASN1Type uy)) c)
        (λ down scope ty uy cs ds t i c. (first_at (suc m) i.0 i.1 (d, e) i.2).accepts down scope ty uy uy cs ds t i.3 (same_beside (out-ASN1Type uy)) c)
        (λ scope s x y i. chain_made C defs others beyond Back (meaning defs m) (meaning others n) b scope s x y i)
        (λ scope s p q e f t i o. element_holds C defs others beyond Back (meaning defs m) (meaning others n) b scope s p q e f t i o)

  back : (n m : ℕ) → Enough n m → Upper n m
  back zero = upper_zero
  back (suc n) = upper_next n (back n)

-- ---- the laws

pub instance_kept : (C : Choices) (defs others : Definitions) (n k : ℕ) → SameOrLinked C defs others (suc (n + k)) → KeepsValues C defs others (suc (n + k)) →
    (m : ℕ) (down : Bool) (scope : Scope) (ty uy : ASN1Type) (t : ValueTree) → (instance C defs n k).of_type down scope ty ≡ Some uy →
    Refines (judge defs m scope ty t) (judge others (m + suc (n + k)) Empty uy t)
instance_kept C defs others n k linked values m down scope ty uy t e =
    let b = (forth C defs others (n + k) linked values m).0 in
    let f : n + k + suc zero ≡ suc (n + k) = omega arith in
    subst (λ z. Refines (judge defs m scope ty t) (z.accepts (place Empty uy) [] t)) (right_is others (suc (n + k)) m) (b.accepts down scope ty uy [] [] t (n, k, (zero, f), e) (inl (n, k, (zero, f), refl)))

pub instance_kept_back : (C : Choices) (defs others : Definitions) (n k : ℕ) → SameOrLinked C defs others (suc (n + k)) → KeepsValuesBack C defs others (suc (n + k)) →
    (m : ℕ) (down : Bool) (scope : Scope) (ty uy : ASN1Type) (t : ValueTree) → (instance C defs n k).of_type down scope ty ≡ Some uy →
    Refines (judge others m Empty uy t) (judge defs (steps_back (suc (n + k)) m) scope ty t)
instance_kept_back C defs others n k linked values m down scope ty uy t e =
    let g : zero + steps_back (suc (n + k)) m ≡ steps_back (suc (n + k)) m = omega arith in
    let b = back C defs others (n + k) linked values m (steps_back (suc (n + k)) m) (zero, g) in
    let f : n + k + suc zero ≡ suc (n + k) = omega arith in
    b.accepts down scope ty uy [] [] t (n, k, (zero, f), e) (inl (n, k, (zero, f), refl))

stays_yes : (a b : Answer) → Refines a b → a ≡ Yes → b ≡ Yes
stays_yes a b p e = subst (λ x. Refines x b) e p

stays_no : (a b : Answer) → Refines a b → a ≡ No → b ≡ No
stays_no a b p e = subst (λ x. Refines x b) e p

pub substitution : (C : Choices) (defs others : Definitions) (n k : ℕ) → SameOrLinked C defs others (suc (n + k)) → KeepsValues C defs others (suc (n + k)) → KeepsValuesBack C defs others (suc (n + k)) →
    (down : Bool) (scope : Scope) (ty uy : ASN1Type) (t : ValueTree) → (instance C defs n k).of_type down scope ty ≡ Some uy →
    (Accepts defs scope ty t ↔ Accepts others Empty uy t) × (Rejects defs scope ty t ↔ Rejects others Empty uy t)
substitution C defs others n k linked values values_back down scope ty uy t e = (
  (
    λ (m, a). (m + suc (n + k), stays_yes _ _ (instance_kept C defs others n k linked values m down scope ty uy t e) a),
    λ (m, a). (steps_back (suc (n + k)) m, stays_yes _ _ (instance_kept_back C defs others n k linked values_back m down scope ty uy t e) a),
  ),
  (
    λ (m, a). (m + suc (n + k), stays_no _ _ (instance_kept C defs others n k linked values m down scope ty uy t e) a),
    λ (m, a). (steps_back (suc (n + k)) m, stays_no _ _ (instance_kept_back C defs others n k linked values_back m down scope ty uy t e) a),
  ),
)

-- a definition without parameters, by what its name leads to
linked_definition : (C : Choices) (defs others : Definitions) (j : ℕ) (d : ToplevelTypeDefinition) (o : Option ToplevelTypeDefinition) → LinkedTarget C defs others j (Some (bare Empty d.ty)) (once None o (λ e. names.instance Empty e e.parameterization [])) →
    (e : ToplevelTypeDefinition) × (o ≡ Some e) × (e.parameterization ≡ None) × Instanced C defs j false Empty d.ty e.ty
linked_definition C defs others j d None (ty, uy, e, f, u) = absurd (no_target (bare Empty uy) f)
  where
    no_target : (x : Target) → None ≡ Some x → ⊥
    no_target x e = cc
linked_definition C defs others j d (Some c) (ty, uy, e, f, u) = at c.parameterization refl f
  where
    at : (a : Option Parameterization) → c.parameterization ≡ a → names.instance Empty c a [] ≡ Some (bare Empty uy) → (e : ToplevelTypeDefinition) × (Some c ≡ Some e) × (e.parameterization ≡ None) × Instanced C defs j false Empty d.ty e.ty
    at None g h =
        let here : d.ty ≡ ty = ap (λ z. z.place.ty) e in
        let there : c.ty ≡ uy = ap (λ z. z.place.ty) (some_same _ _ h) in
        (c, refl, g, subst (λ z. Instanced C defs j false Empty z c.ty) (sym here) (subst (λ z. Instanced C defs j false Empty ty z) (sym there) u))
    at (Some template) g h = absurd cc

plain_is : (defs : Definitions) (name : List ℕ) (d : ToplevelTypeDefinition) → type_named defs name ≡ Some d → d.parameterization ≡ None → plain_target defs name ≡ Some (bare Empty d.ty)
plain_is defs name d e f = ap (λ z. once None z (λ d. names.instance Empty d d.parameterization [])) e ∙ ap (λ z. names.instance Empty d z []) f

module _ (C : Choices) (defs others : Definitions) (k : ℕ) (linked : LinkedBy C defs others (suc k)) (values : KeepsValues C defs others (suc k)) (values_back : KeepsValuesBack C defs others (suc k)) where
  -- an instance of fewer than so many steps means the same
  instanced_kept : (ty uy : ASN1Type) → Instanced C defs (suc k) false Empty ty uy → (n : ℕ) (t : ValueTree) → Refines (judge defs n Empty ty t) (judge others (n + suc k) Empty uy t)
  instanced_kept ty uy (floor, i, before, e) n t =
      let b = (forth C defs others k (inr linked) values n).0 in
      subst (λ z. Refines (judge defs n Empty ty t) (z.accepts (place Empty uy) [] t)) (right_is others (suc k) n) (b.accepts false Empty ty uy [] [] t (floor, i, before, e) (inl (floor, i, before, refl)))

  instanced_back : (ty uy : ASN1Type) → Instanced C defs (suc k) false Empty ty uy → (n : ℕ) (t : ValueTree) → Refines (judge others n Empty uy t) (judge defs (steps_back (suc k) n) Empty ty t)
  instanced_back ty uy (floor, i, before, e) n t =
      let g : zero + steps_back (suc k) n ≡ steps_back (suc k) n = omega arith in
      let b = back C defs others k (inr linked) values_back n (steps_back (suc k) n) (zero, g) in
      b.accepts false Empty ty uy [] [] t (floor, i, before, e) (inl (floor, i, before, refl))

  same_trees : (ty uy : ASN1Type) → Instanced C defs (suc k) false Empty ty uy → (t : ValueTree) → (Accepts defs Empty ty t ↔ Accepts others Empty uy t) × (Rejects defs Empty ty t ↔ Rejects others Empty uy t)
  same_trees ty uy u t = (
    (λ (n, a). (n + suc k, stays_yes _ _ (instanced_kept ty uy u n t) a), λ (n, a). (steps_back (suc k) n, stays_yes _ _ (instanced_back ty uy u n t) a)),
    (λ (n, a). (n + suc k, stays_no _ _ (instanced_kept ty uy u n t) a), λ (n, a). (steps_back (suc k) n, stays_no _ _ (instanced_back ty uy u n t) a)),
  )

  linked_same : (name : List ℕ) (d : ToplevelTypeDefinition) → C.keeps None name ≡ true → type_named defs name ≡ Some d → d.parameterization ≡ None →
      (e : ToplevelTypeDefinition) × (type_named others name ≡ Some e) × (e.parameterization ≡ None)
      × ((t : ValueTree) → (Accepts defs Empty d.ty t ↔ Accepts others Empty e.ty t) × (Rejects defs Empty d.ty t ↔ Rejects others Empty e.ty t))
  linked_same name d kept e f =
      let q = linked_definition C defs others (suc k) d (type_named others name) (subst (λ z. LinkedTarget C defs others (suc k) z (plain_target others name)) (plain_is defs name d e f) (linked.types name kept)) in
      (q.0, q.1, q.2, λ t. same_trees d.ty q.0.ty q.3 t)

pub linked_types_mean_the_same : (C : Choices) (defs others : Definitions) (k : ℕ) → LinkedBy C defs others (suc k) → KeepsValues C defs others (suc k) → KeepsValuesBack C defs others (suc k) →
    (name : List ℕ) (d : ToplevelTypeDefinition) → C.keeps None name ≡ true → type_named defs name ≡ Some d → d.parameterization ≡ None →
    (e : ToplevelTypeDefinition) × (type_named others name ≡ Some e) × (e.parameterization ≡ None)
    × ((t : ValueTree) → (Accepts defs Empty d.ty t ↔ Accepts others Empty e.ty t) × (Rejects defs Empty d.ty t ↔ Rejects others Empty e.ty t))
linked_types_mean_the_same C defs others k linked values values_back name d kept e f = linked_same C defs others k linked values values_back name d kept e f
