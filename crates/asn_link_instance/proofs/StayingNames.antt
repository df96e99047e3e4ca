-- Names that may stay at every depth of what is made.
use Rattle.std.proofs.Common.{Bool, List, None, Option, Some, [], ap, false, inl, inr, refl, subst, suc, sym, true, zero, ℕ, ◌&&◌, ◌++◌, ◌∙◌, ◌∷◌, ◌≡◌, ◌⊎◌}
use Rattle.std.specs.List.{list_all}
use Rattle.asn_tree.specs.declared.constraints.Constraint.{Constraint}
use Rattle.asn_tree.specs.declared.constraints.ElementOrSetOperation.{ElementOrSetOperation, out-ElementOrSetOperation}
use Rattle.asn_tree.specs.declared.constraints.SubtypeElement.{SubtypeElement, out-SubtypeElement}
use Rattle.asn_tree.specs.declared.types.ASN1Type.{ASN1Type, ASN1Type-F, out-ASN1Type}
use Rattle.asn_tree.specs.declared.types.Choice.{out-Choice, out-roll-Choice}
use Rattle.asn_tree.specs.declared.types.ChoiceOption.{ChoiceOption, out-ChoiceOption}
use Rattle.asn_tree.specs.declared.types.SequenceOrSet.{out-SequenceOrSet, out-roll-SequenceOrSet}
use Rattle.asn_tree.specs.declared.types.SequenceOrSetMember.{SequenceOrSetMember, out-SequenceOrSetMember}
use Rattle.asn_tree.specs.declared.types.SequenceOrSetOf.{out-SequenceOrSetOf, out-roll-SequenceOrSetOf}
use Rattle.asn_tree_notation.specs.Types.{constraints_at}
use Rattle.asn_meaning.specs.Kinds.{kind_at}
use Rattle.asn_meaning.specs.Layers.{ElementLayer, ListedLayer, SetLayer, TypeLayer}
use Rattle.asn_meaning.specs.Placed.{listed}
use Rattle.asn_calls.specs.Types.{with_constraints_at}
use Rattle.asn_link_instance.specs.Instance.{followed_by, has_no_place}
use Rattle.asn_link_instance.specs.Staying.{Names, NamesStay, Staying, constraints_stay, element_stays, kind_stays, layer_stays, member_stays, option_stays, set_stays, staying}
use Rattle.asn_link_instance.proofs.Forms.{own}
use Rattle.asn_link_instance.proofs.Holding.{Holds, result_holds, result_is}

-- ---- tests

first_of : (a b : Bool) → (a && b) ≡ true → a ≡ true
first_of true b e = refl
first_of false b e = absurd cc

second_of : (a b : Bool) → (a && b) ≡ true → b ≡ true
second_of true b e = e
second_of false b e = absurd cc

-- at every depth
pub firsts : (a b : ℕ → Bool) → ((m : ℕ) → (a m && b m) ≡ true) → (m : ℕ) → a m ≡ true
firsts a b f m = first_of (a m) (b m) (f m)

pub seconds : (a b : ℕ → Bool) → ((m : ℕ) → (a m && b m) ≡ true) → (m : ℕ) → b m ≡ true
seconds a b f m = second_of (a m) (b m) (f m)

list_first : {A : Type 0} (f : A → Bool) (xs ys : List A) → list_all f (xs ++ ys) ≡ true → list_all f xs ≡ true
list_first f [] ys e = refl
list_first f (x ∷ xs) ys e = ap (λ z. z && list_all f xs) (first_of (f x) _ e) ∙ list_first f xs ys (second_of (f x) _ e)

list_second : {A : Type 0} (f : A → Bool) (xs ys : List A) → list_all f (xs ++ ys) ≡ true → list_all f ys ≡ true
list_second f [] ys e = e
list_second f (x ∷ xs) ys e = list_second f xs ys (second_of (f x) _ e)

module _ (keeps : Names) where
  abbrev pub TypeOk : ASN1Type → Type 0
  TypeOk ty = NamesStay keeps ty

  abbrev pub SetOk : ElementOrSetOperation → Type 0
  SetOk x = (m : ℕ) → (staying keeps m).of_set x ≡ true

  abbrev pub ElementOk : SubtypeElement → Type 0
  ElementOk x = (m : ℕ) → (staying keeps m).of_element x ≡ true

  abbrev pub LayerOk : TypeLayer → Type 0
  LayerOk l = (m : ℕ) → layer_stays keeps (staying keeps m) l ≡ true

  abbrev pub SetLayerOk : SetLayer → Type 0
  SetLayerOk l = (m : ℕ) → set_stays keeps (staying keeps m) l ≡ true

  abbrev pub ElementLayerOk : ElementLayer → Type 0
  ElementLayerOk l = (m : ℕ) → element_stays keeps (staying keeps m) l ≡ true

  abbrev pub AllOk : List Constraint → Type 0
  AllOk cs = (m : ℕ) → constraints_stay keeps (staying keeps m) cs ≡ true

  abbrev pub MembersOk : List SequenceOrSetMember → Type 0
  MembersOk ws = (m : ℕ) → list_all (λ w. member_stays keeps (staying keeps m) (out-SequenceOrSetMember w)) ws ≡ true

  abbrev pub OptionsOk : List ChoiceOption → Type 0
  OptionsOk os = (m : ℕ) → list_all (λ o. option_stays keeps (staying keeps m) (out-ChoiceOption o)) os ≡ true

  abbrev pub ListedOk : List ListedLayer → Type 0
  ListedOk cs = (m : ℕ) → list_all (λ c. constraints_stay keeps (staying keeps m) c.constraints) cs ≡ true

  -- ---- one level down, and up

  pub type_layer : (ty : ASN1Type) → TypeOk ty → LayerOk (out-ASN1Type ty)
  unfolding staying
  type_layer ty f m = f (suc m)

  pub layer_type : (ty : ASN1Type) → LayerOk (out-ASN1Type ty) → TypeOk ty
  unfolding staying
  layer_type ty f zero = refl
  layer_type ty f (suc m) = f m

  pub set_layer : (x : ElementOrSetOperation) → SetOk x → SetLayerOk (out-ElementOrSetOperation x)
  unfolding staying
  set_layer x f m = f (suc m)

  pub element_layer : (x : SubtypeElement) → ElementOk x → ElementLayerOk (out-SubtypeElement x)
  unfolding staying
  element_layer x f m = f (suc m)

  pub all_first : (cs ds : List Constraint) → AllOk (cs ++ ds) → AllOk cs
  all_first cs ds f m = list_first _ cs ds (f m)

  pub all_second : (cs ds : List Constraint) → AllOk (cs ++ ds) → AllOk ds
  all_second cs ds f m = list_second _ cs ds (f m)

  -- ---- layers with other constraints

  kind_with : (S : Staying) (l : TypeLayer) (cs : List Constraint) → kind_stays keeps S (kind_at (with_constraints_at l cs)) ≡ kind_stays keeps S (kind_at l)
  kind_with S (ASN1Type-F.ASN1Type::Choice x) cs = ap (λ z. list_all (λ o. option_stays keeps S (out-ChoiceOption o)) z.options) (out-roll-Choice (record (out-Choice x) { constraints = cs }))
  kind_with S (ASN1Type-F.Sequence x) cs = ap (λ z. list_all (λ m. member_stays keeps S (out-SequenceOrSetMember m)) z.members) (out-roll-SequenceOrSet (record (out-SequenceOrSet x) { constraints = cs }))
  kind_with S (ASN1Type-F.Set x) cs = ap (λ z. list_all (λ m. member_stays keeps S (out-SequenceOrSetMember m)) z.members) (out-roll-SequenceOrSet (record (out-SequenceOrSet x) { constraints = cs }))
  kind_with S (ASN1Type-F.SequenceOf x) cs = ap (λ z. S.of_type z.element_type) (out-roll-SequenceOrSetOf (record (out-SequenceOrSetOf x) { constraints = cs }))
  kind_with S (ASN1Type-F.SetOf x) cs = ap (λ z. S.of_type z.element_type) (out-roll-SequenceOrSetOf (record (out-SequenceOrSetOf x) { constraints = cs }))
  kind_with S _ cs = refl

  pub layer_kind : (l : TypeLayer) (cs : List Constraint) → LayerOk (with_constraints_at l cs) → (m : ℕ) → kind_stays keeps (staying keeps m) (kind_at l) ≡ true
  layer_kind l cs f m = sym (kind_with (staying keeps m) l cs) ∙ first_of _ _ (f m)

  -- a layer has no place for constraints, or has those that are put there
  pub placed_or : (l : TypeLayer) → (constraints_at l ≡ None) ⊎ ((cs : List Constraint) → own (with_constraints_at l cs) ≡ cs)
  placed_or ASN1Type-F.ASN1Type::Null = inl refl
  placed_or (ASN1Type-F.ChoiceSelectionType x) = inl refl
  placed_or ASN1Type-F.EmbeddedPdv = inl refl
  placed_or ASN1Type-F.External = inl refl
  placed_or (ASN1Type-F.ASN1Type::Choice x) = inr (λ cs. ap (λ z. z.constraints) (out-roll-Choice (record (out-Choice x) { constraints = cs })))
  placed_or (ASN1Type-F.Sequence x) = inr (λ cs. ap (λ z. z.constraints) (out-roll-SequenceOrSet (record (out-SequenceOrSet x) { constraints = cs })))
  placed_or (ASN1Type-F.Set x) = inr (λ cs. ap (λ z. z.constraints) (out-roll-SequenceOrSet (record (out-SequenceOrSet x) { constraints = cs })))
  placed_or (ASN1Type-F.SequenceOf x) = inr (λ cs. ap (λ z. z.constraints) (out-roll-SequenceOrSetOf (record (out-SequenceOrSetOf x) { constraints = cs })))
  placed_or (ASN1Type-F.SetOf x) = inr (λ cs. ap (λ z. z.constraints) (out-roll-SequenceOrSetOf (record (out-SequenceOrSetOf x) { constraints = cs })))
  placed_or _ = inr (λ cs. refl)

  pub own_none : (o : Option (List Constraint)) → o ≡ None → listed o ≡ []
  own_none None e = refl
  own_none (Some cs) e = absurd cc

  pub layer_all : (l : TypeLayer) (cs : List Constraint) → own (with_constraints_at l cs) ≡ cs → LayerOk (with_constraints_at l cs) → AllOk cs
  layer_all l cs e f m = ap (constraints_stay keeps (staying keeps m)) (sym e) ∙ second_of _ _ (f m)

  followed_is : (l : TypeLayer) (zs : List Constraint) → Holds (followed_by l zs) (λ r. r ≡ with_constraints_at l (own l ++ zs))
  followed_is (ASN1Type-F.ChoiceSelectionType x) zs = tt
  followed_is _ zs = refl

  -- what is found of the names of a layer that constraints follow
  followed_ok : (l : TypeLayer) (zs : List Constraint) (r : TypeLayer) → r ≡ with_constraints_at l (own l ++ zs) → LayerOk r → LayerOk l × ((AllOk zs) ⊎ (constraints_at l ≡ None))
  followed_ok l zs r e f = at (placed_or l) (subst (λ z. LayerOk z) e f)
    where
      joined : AllOk (own l) → LayerOk (with_constraints_at l (own l ++ zs)) → LayerOk l
      joined g f m = ap (λ z. z && constraints_stay keeps (staying keeps m) (own l)) (layer_kind l (own l ++ zs) f m) ∙ g m

      at : (constraints_at l ≡ None) ⊎ ((cs : List Constraint) → own (with_constraints_at l cs) ≡ cs) → LayerOk (with_constraints_at l (own l ++ zs)) → LayerOk l × ((AllOk zs) ⊎ (constraints_at l ≡ None))
      at (inl none) f = (joined (λ m. ap (constraints_stay keeps (staying keeps m)) (own_none (constraints_at l) none)) f, inr none)
      at (inr same) f =
          let g = layer_all l (own l ++ zs) (same (own l ++ zs)) f in
          (joined (all_first (own l) zs g) f, inl (all_second (own l) zs g))

  -- no layer with a place for constraints lacks them, but a selection
  lacks_none : (l : TypeLayer) (zs : List Constraint) (r : TypeLayer) → has_no_place l ≡ false → constraints_at l ≡ None → followed_by l zs ≡ Some r → ⊥
  lacks_none ASN1Type-F.ASN1Type::Null zs r e f g = cc
  lacks_none (ASN1Type-F.ChoiceSelectionType x) zs r e f g = cc
  lacks_none ASN1Type-F.EmbeddedPdv zs r e f g = cc
  lacks_none ASN1Type-F.External zs r e f g = cc
  lacks_none _ zs r e f g = cc

  pub followed_names : (l : TypeLayer) (zs : List Constraint) → has_no_place l ≡ false → Holds (followed_by l zs) (λ r. LayerOk r → LayerOk l × AllOk zs)
  followed_names l zs e = result_is (followed_by l zs) _ (λ r g ok.
      let k = followed_ok l zs r (result_holds (followed_by l zs) (λ r. r ≡ with_constraints_at l (own l ++ zs)) r (followed_is l zs) g) ok in (k.0, found r g k.1))
    where
      found : (r : TypeLayer) → followed_by l zs ≡ Some r → (AllOk zs) ⊎ (constraints_at l ≡ None) → AllOk zs
      found r g (inl ok) = ok
      found r g (inr none) = absurd (lacks_none l zs r e none g)
