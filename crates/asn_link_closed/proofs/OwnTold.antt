-- What is told of what linking leaves as it is, by one level of it.
use Rattle.std.proofs.Common.{◌≡◌, List, [], ◌∷◌, Bool, true, false, Option, Some, None, map, refl, sym, ap, ◌∙◌}
use Rattle.std.specs.Prelude.{is_none, if◌then◌else◌}
use Rattle.asn_tree.specs.Folds.{constraint_is, constraint_read, element_is, element_read, type_is, type_read}
use Rattle.asn_tree.specs.Layers.{ConstraintLayer, ElementLayer, TypeLayer}
use Rattle.asn_tree.specs.declared.constraints.Constraint.{roll-Constraint, out-roll-Constraint}
use Rattle.asn_tree.specs.declared.constraints.SubtypeElement.{roll-SubtypeElement, out-roll-SubtypeElement}
use Rattle.asn_tree.specs.declared.types.ASN1Type.{ASN1Type, roll-ASN1Type, out-roll-ASN1Type}
use Rattle.asn_meaning_unchanged.specs.Unchanged.{all_behind, are_all, constraint_form, constraint_stays, contained_form, element_form, element_stays, has_none, is_left, linking, stays_if, telling, type_form}
use Rattle.asn_meaning_unchanged.specs.declared.types.Linking.{Linking}
use Rattle.asn_meaning_unchanged.specs.declared.types.Linking.TheVariants.{Stays, PlainName, Changes}

-- ---- tests

pub record Both (b : Bool) (cs : List Bool) : Type 0 where
  pub first : b ≡ true
  pub others : are_all cs ≡ true

pub split : (b : Bool) (cs : List Bool) → all_behind b cs ≡ true → Both b cs
split true cs h = record { first = refl; others = h }
split false cs h = absurd (go (all_behind false cs) h (all_false cs))
  where
    all_false : (cs : List Bool) → all_behind false cs ≡ false
    all_false [] = refl
    all_false (c ∷ cs) = all_false cs

    go : (b : Bool) → b ≡ true → b ≡ false → ⊥
    go true p q = absurd cc
    go false p q = absurd cc

pub never : (b : Bool) → b ≡ true → b ≡ false → ⊥
never true h e = absurd cc
never false h e = absurd cc

pub left_if : (b : Bool) → is_left (stays_if b) ≡ true → b ≡ true
left_if true h = refl
left_if false h = absurd cc

pub no_stay : (b : Bool) → (if b then PlainName else Changes) ≡ Stays → ⊥
no_stay true h = absurd cc
no_stay false h = absurd cc

pub reference_if : (b : Bool) → is_left (if b then PlainName else Changes) ≡ true → b ≡ true
reference_if true h = refl
reference_if false h = absurd cc

pub none_mapped : {A B : Type 0} (f : A → B) (xs : List A) → has_none (map f xs) ≡ true → xs ≡ []
none_mapped f [] h = refl
none_mapped f (x ∷ xs) h = absurd cc

pub none_empty : {A : Type 0} (xs : List A) → has_none xs ≡ true → xs ≡ []
none_empty [] h = refl
none_empty (x ∷ xs) h = absurd cc

pub none_is : {A : Type 0} (o : Option A) → is_none o ≡ true → o ≡ None
none_is None h = refl
none_is (Some x) h = absurd cc

-- ---- types, by one level

pub linking_at : (l : TypeLayer) → linking (roll-ASN1Type l) ≡ type_form (type_read telling l)
linking_at l = type_is telling (roll-ASN1Type l) ∙ ap (λ z. type_form (type_read telling z)) (out-roll-ASN1Type l)

pub held : (l : TypeLayer) (b : Bool) → type_form (type_read telling l) ≡ stays_if b → is_left (linking (roll-ASN1Type l)) ≡ true → b ≡ true
held l b told h = left_if b (ap is_left (sym told ∙ sym (linking_at l)) ∙ h)

-- a contained subtype is no plain name
pub contained_stays : (ty : ASN1Type) → contained_form (linking ty) ≡ true → linking ty ≡ Stays
contained_stays ty h = go (linking ty) h
  where
    go : (k : Linking) → contained_form k ≡ true → k ≡ Stays
    go Stays h = refl
    go PlainName h = absurd cc
    go Changes h = absurd cc

-- ---- constraints, by one level

pub element_at : (l : ElementLayer) → element_stays (roll-SubtypeElement l) ≡ element_form (element_read telling l)
element_at l = element_is telling (roll-SubtypeElement l) ∙ ap (λ z. element_form (element_read telling z)) (out-roll-SubtypeElement l)

pub constraint_at : (l : ConstraintLayer) → constraint_stays (roll-Constraint l) ≡ constraint_form (constraint_read telling l)
constraint_at l = constraint_is telling (roll-Constraint l) ∙ ap (λ z. constraint_form (constraint_read telling z)) (out-roll-Constraint l)
