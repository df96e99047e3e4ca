-- Constraints of instances are plain where the levels below are.
use Rattle.std.proofs.Common.{Bool, List, None, Option, Some, [], ap, arith, false, inl, inr, refl, subst, suc, sym, true, ℕ, ◌&&◌, ◌++◌, ◌+◌, ◌∙◌, ◌∷◌, ◌≡◌, ◌⊎◌}
use Rattle.std.specs.List.{list_all}
use Rattle.asn_tree.specs.declared.constraints.Constraint.{Constraint, Constraint-F, out-Constraint, out-roll-Constraint, roll-Constraint}
use Rattle.asn_tree.specs.declared.constraints.ElementOrSetOperation.{ElementOrSetOperation}
use Rattle.asn_tree.specs.declared.constraints.SubtypeElement.{SubtypeElement}
use Rattle.asn_tree.specs.declared.types.ASN1Type.{ASN1Type, out-ASN1Type}
use Rattle.asn_tree_kinds.specs.declared.constraints.SetOperator.{SetOperator}
use Rattle.asn_meaning.specs.Accepts.{place}
use Rattle.asn_meaning.specs.Answers.{Within, once}
use Rattle.asn_meaning.specs.Definitions.{Definitions}
use Rattle.asn_meaning.specs.Judge.{meaning, step}
use Rattle.asn_meaning.specs.Kinds.{kind_of_type}
use Rattle.asn_meaning.specs.Layers.{ConstraintLayer}
use Rattle.asn_meaning.specs.Names.{LeadsTo, head_from, lead}
use Rattle.asn_meaning.specs.Numbers.{Chain}
use Rattle.asn_meaning.specs.Plain.{constraint_plain, constraints_plain, is_plain_name, parts_plain, plainness, set_plain, type_plain}
use Rattle.asn_meaning.specs.Scopes.{Empty, Place, Scope, Target}
use Rattle.asn_meaning.proofs.Answering.{one_of}
use Rattle.asn_meaning.proofs.More.{lead_more}
use Rattle.asn_meaning.proofs.Steps.{more_known}
use Rattle.asn_link_instance.specs.Heads.{Alike, KeepsValues, constraints_made}
use Rattle.asn_link_instance.specs.Instance.{constraint_instance, instance, content_instance}
use Rattle.asn_link_instance.specs.Linked.{SameOrLinked}
use Rattle.asn_link_instance.specs.Plain.{Eventually, PutOn, StandsAsHead}
use Rattle.asn_link_instance.specs.Subjects.{Choices, OnValues, Subject}
use Rattle.asn_link_instance.specs.Ways.{Forth}
use Rattle.asn_link_instance.proofs.Falling.{leads_later}
use Rattle.asn_link_instance.proofs.Eventually.{all_append, always, and_true, found_stands, head_stays, joined, later, mapped, within_is}
use Rattle.asn_link_instance.proofs.Forms.{own}
use Rattle.asn_link_instance.proofs.Holding.{Holds, once_holds, then_holds}
use Rattle.asn_link_instance.proofs.Kept.{below_forth}
use Rattle.asn_link_instance.proofs.KeptParts.{Stands, stands_head}
use Rattle.asn_link_instance.proofs.Pairs.{Paired}

pub paired_at : {A B : Type 0} (R : A → B → Type 0) (a : Option A) (b : Option B) (x : A) → Paired Forth R a b → a ≡ Some x → (y : B) × (b ≡ Some y) × R x y
paired_at R a b x p e = subst (λ z. Paired Forth R z b) e p

module _ (C : Choices) (defs others : Definitions) (k : ℕ) (linked : SameOrLinked C defs others (suc k)) (values : KeepsValues C defs others (suc k)) where
  abbrev pub j : ℕ
  j = suc k

  -- ---- what is plain from some number of steps on

  abbrev pub AllPlain : Place → List Constraint → Type 0
  AllPlain q cs = Eventually (λ m. list_all (λ d. constraint_plain (meaning others m) (plainness others m) q (out-Constraint d)) cs ≡ true)

  abbrev pub ElementPlain : Place → SubtypeElement → Type 0
  ElementPlain q e = Eventually (λ m. (plainness others m).of_element q e ≡ true)

  abbrev pub TypePlain : ASN1Type → Type 0
  TypePlain ty = Eventually (λ m. (plainness others m).of_type ty ≡ true)

  abbrev pub OthersPlain : Place → List (SetOperator × SubtypeElement) → Type 0
  OthersPlain q [] = Unit {0}
  OthersPlain q ((o, e) ∷ es) = ElementPlain q e × OthersPlain q es

  -- a set whose elements are plain
  pub record ChainPlain (q : Place) (y : ElementOrSetOperation) : Type 0 where
    pub chain : Chain
    pub is : Eventually (λ m. (meaning others m).chain y ≡ Some chain)
    pub first : ElementPlain q chain.first
    pub others_plain : OthersPlain q chain.others

  -- constraints that are plain under each head that is alike to the one they were made under
  abbrev pub PlacedPlain : Place → List Constraint → Type 0
  PlacedPlain p cs = (cs ≡ []) ⊎ ((a : ℕ) × (h : Place) × ((meaning defs a).head p ≡ Some h) × ((q : Place) → Alike C defs others j h q → StandsAsHead others q → AllPlain q cs))

  -- a type's instance, its own constraints apart
  pub record PlainType (down : Bool) (scope : Scope) (ty uy : ASN1Type) : Type 0 where
    pub parts : Eventually (λ m. parts_plain others (meaning others m) (plainness others m) (kind_of_type uy) ≡ true)
    pub own_plain : PlacedPlain (place scope ty) (own (out-ASN1Type uy))
    pub unnamed : down ≡ true → is_plain_name (kind_of_type uy) ≡ false

  -- ---- sets

  others_all : (q : Place) (es : List (SetOperator × SubtypeElement)) → OthersPlain q es → Eventually (λ m. list_all (λ x. (plainness others m).of_element q x.1) es ≡ true)
  others_all q [] p = always (λ m. refl)
  others_all q ((o, e) ∷ es) (p, ps) = joined (λ m a b. and_true ((plainness others m).of_element q e) (list_all (λ x. (plainness others m).of_element q x.1) es) a b) p (others_all q es ps)

  pub chain_set : (q : Place) (y : ElementOrSetOperation) → ChainPlain q y → Eventually (λ m. set_plain (meaning others m) (plainness others m) q y ≡ true)
  chain_set q y p =
      joined (λ m e f. ap (λ z. once false z (λ c. (plainness others m).of_element q c.first && list_all (λ x. (plainness others m).of_element q x.1) c.others)) e ∙ f) p.is
      (joined (λ m a b. and_true ((plainness others m).of_element q p.chain.first) (list_all (λ x. (plainness others m).of_element q x.1) p.chain.others) a b) p.first (others_all q p.chain.others p.others_plain))

  -- ---- constraints at their places

  pub all_joined : (q : Place) (cs ds : List Constraint) → AllPlain q cs → AllPlain q ds → AllPlain q (cs ++ ds)
  all_joined q cs ds p r = joined (λ m a b. all_append (λ d. constraint_plain (meaning others m) (plainness others m) q (out-Constraint d)) cs ds a b) p r

  -- a place has one head
  one_head : (p h g : Place) (a b : ℕ) → (meaning defs a).head p ≡ Some h → (meaning defs b).head p ≡ Some g → h ≡ g
  one_head p h g a b e f =
      let same : b + a ≡ a + b = omega arith in
      one_of ((meaning defs a).head p) ((meaning defs b).head p) ((meaning defs (a + b)).head p) h g ((more_known defs a b).head p)
      (subst (λ z. Within ((meaning defs b).head p) ((meaning defs z).head p)) same ((more_known defs b a).head p)) e f

  pub placed_joined : (p : Place) (cs ds : List Constraint) → PlacedPlain p cs → PlacedPlain p ds → PlacedPlain p (cs ++ ds)
  placed_joined p cs ds (inl e) r = subst (λ z. PlacedPlain p (z ++ ds)) (sym e) r
  placed_joined p cs ds (inr (a, h, e, f)) (inl g) =
      inr (a, h, e, λ q alike stands. all_joined q cs ds (f q alike stands) (subst (λ z. AllPlain q z) (sym g) (always (λ m. refl))))
  placed_joined p cs ds (inr (a, h, e, f)) (inr (b, u, g, w)) =
      let same : h ≡ u = one_head p h u a b e g in
      inr (a, h, e, λ q alike stands. all_joined q cs ds (f q alike stands) (w q (subst (λ z. Alike C defs others j z q) same alike) stands))

  head_before : (n : ℕ) (p h : Place) (x : Target) → lead defs (meaning defs n) p ≡ LeadsTo x → (meaning defs n).head x.place ≡ Some h → (meaning defs (suc n)).head p ≡ Some h
  unfolding meaning step
  head_before n p h x l e = ap (head_from (meaning defs n) p) l ∙ e

  -- the head of what a name leads to is the name's
  pub placed_before : (i : ℕ) (p : Place) (x : Target) (cs : List Constraint) → lead defs (meaning defs i) p ≡ LeadsTo x → PlacedPlain x.place cs → PlacedPlain p cs
  placed_before i p x cs l (inl e) = inl e
  placed_before i p x cs l (inr (a, h, e, f)) = inr (suc (i + a), h, head_before (i + a) p h x later_lead there, f)
    where
      later_lead : lead defs (meaning defs (i + a)) p ≡ LeadsTo x
      later_lead = leads_later (lead defs (meaning defs i) p) (lead defs (meaning defs (i + a)) p) x (lead_more (meaning defs i) (meaning defs (i + a)) (more_known defs i a) defs p) l

      there : (meaning defs (i + a)).head x.place ≡ Some h
      there = let same : a + i ≡ i + a = omega arith in subst (λ z. (meaning defs z).head x.place ≡ Some h) same (within_is _ _ h e ((more_known defs a i).head x.place))

  -- constraints at a place of the instance
  pub constraints_stand : (p q : Place) (ds : List Constraint) → Stands C defs others j p q → PlacedPlain p ds → Eventually (λ m. constraints_plain (meaning others m) (plainness others m) q ds ≡ true)
  constraints_stand p q [] s r = always (λ m. refl)
  constraints_stand p q (d ∷ ds) s (inl e) = absurd (no_list d ds e)
    where
      no_list : (d : Constraint) (ds : List Constraint) → (d ∷ ds) ≡ [] → ⊥
      no_list d ds e = cc
  constraints_stand p q (d ∷ ds) s (inr (a, h, e, f)) =
      let b = below_forth C defs others k linked values a in
      let y = paired_at (λ h k. Alike C defs others j h k) ((meaning defs a).head p) ((meaning others (a + j)).head q) h (stands_head C defs others j Forth (meaning defs a) (meaning others (a + j)) b p q s) e in
      joined (λ m u w. ap (λ z. once false z (λ head. list_all (λ c. constraint_plain (meaning others m) (plainness others m) head (out-Constraint c)) (d ∷ ds))) u ∙ w)
      (head_stays others (a + j) q y.0 y.1) (f y.0 y.2 (found_stands others (a + j) q y.0 y.1))

  pub type_stands : (down : Bool) (scope : Scope) (ty uy : ASN1Type) → Stands C defs others j (place scope ty) (place Empty uy) → PlainType down scope ty uy → TypePlain uy
  unfolding plainness
  type_stands down scope ty uy s p =
      later (λ m e. e)
      (joined {R = λ m. type_plain others (meaning others m) (plainness others m) uy ≡ true} (λ m a b. and_true (parts_plain others (meaning others m) (plainness others m) (kind_of_type uy)) (constraints_plain (meaning others m) (plainness others m) (place Empty uy) (own (out-ASN1Type uy))) a b)
      p.parts (constraints_stand (place scope ty) (place Empty uy) (own (out-ASN1Type uy)) s p.own_plain))

  -- ---- one level

  -- what is plain of the instances of a number of levels
  pub record PlainLevel (floor i : ℕ) : Type 0 where
    pub of_type : (down : Bool) (scope : Scope) (ty uy : ASN1Type) → (instance C defs floor i).of_type down scope ty ≡ Some uy → PlainType down scope ty uy
    pub of_set : (scope : Scope) (s : Subject) (x y : ElementOrSetOperation) → (instance C defs floor i).of_set scope s x ≡ Some y → (q : Place) → PutOn C defs others j s q → StandsAsHead others q → ChainPlain q y
    pub of_element : (scope : Scope) (s : Subject) (e f : SubtypeElement) → (instance C defs floor i).of_element scope s e ≡ Some f → (q : Place) → PutOn C defs others j s q → StandsAsHead others q → ElementPlain q f

  module _ (floor i : ℕ) (below : PlainLevel floor i) (scope : Scope) where
    constraint_made : (h : Place) (l : ConstraintLayer) → Holds (constraint_instance C defs (meaning defs floor) (instance C defs floor i) scope (OnValues h) l) (λ ys. (q : Place) → Alike C defs others j h q → StandsAsHead others q → AllPlain q ys)
    constraint_made h (Constraint-F.SubtypeConstraint x) = once_holds ((instance C defs floor i).of_set scope (OnValues h) x.set) _ _ (λ set e q alike stands.
        mapped (λ m u. and_true (constraint_plain (meaning others m) (plainness others m) q (out-Constraint (roll-Constraint (Constraint-F.SubtypeConstraint (record x { set = set }))))) true (ap (constraint_plain (meaning others m) (plainness others m) q) (out-roll-Constraint (Constraint-F.SubtypeConstraint (record x { set = set }))) ∙ u) refl)
        (chain_set q set (below.of_set scope (OnValues h) x.set set e q alike stands)))
    constraint_made h (Constraint-F.TableConstraint x) = once_holds (C.table (meaning defs floor) scope x) _ _ (λ y e q alike stands.
        always (λ m. and_true (constraint_plain (meaning others m) (plainness others m) q (out-Constraint (roll-Constraint (Constraint-F.TableConstraint y)))) true (ap (constraint_plain (meaning others m) (plainness others m) q) (out-roll-Constraint (Constraint-F.TableConstraint y))) refl))
    constraint_made h (Constraint-F.ContentConstraint x) = once_holds (content_instance C defs (meaning defs floor) (instance C defs floor i) scope x) _ _ (λ y e q alike stands.
        always (λ m. and_true (constraint_plain (meaning others m) (plainness others m) q (out-Constraint (roll-Constraint (Constraint-F.ContentConstraint y)))) true (ap (constraint_plain (meaning others m) (plainness others m) q) (out-roll-Constraint (Constraint-F.ContentConstraint y))) refl))
    constraint_made h (Constraint-F.Parameter ps) = λ q alike stands. always (λ m. refl)

    pub constraints_placed : (p : Place) (cs : List Constraint) → Holds (constraints_made C defs floor i scope p cs) (PlacedPlain p)
    constraints_placed p [] = inl refl
    constraints_placed p (c ∷ cs) =
        then_holds (once None ((meaning defs floor).head p) (λ head. constraint_instance C defs (meaning defs floor) (instance C defs floor i) scope (OnValues head) (out-Constraint c))) _ (PlacedPlain p) _
        (once_holds ((meaning defs floor).head p) _ _ (λ h e. placed_made h e (out-Constraint c))) (λ ys e u.
        then_holds (constraints_made C defs floor i scope p cs) _ (PlacedPlain p) _ (constraints_placed p cs) (λ zs f v. placed_joined p ys zs u v))
      where
        placed_made : (h : Place) → (meaning defs floor).head p ≡ Some h → (l : ConstraintLayer) → Holds (constraint_instance C defs (meaning defs floor) (instance C defs floor i) scope (OnValues h) l) (PlacedPlain p)
        placed_made h e l =
            then_holds_same (constraint_instance C defs (meaning defs floor) (instance C defs floor i) scope (OnValues h) l) _ (PlacedPlain p) (constraint_made h l) (λ ys f. inr (floor, h, e, f))
          where
            then_holds_same : (a : Option (List Constraint)) (P Q : List Constraint → Type 0) → Holds a P → ((ys : List Constraint) → P ys → Q ys) → Holds a Q
            then_holds_same None P Q p f = tt
            then_holds_same (Some ys) P Q p f = f ys p
