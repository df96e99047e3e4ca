-- Layers that differ in their constraints alone.
use Rattle.std.proofs.Common.{List, None, Option, Some, [], ap, inl, inr, refl, subst, sym, true, ℕ, ◌++◌, ◌∙◌, ◌∷◌, ◌≡◌, ◌⊎◌}
use Rattle.asn_tree.specs.declared.constraints.Constraint.{Constraint, out-Constraint}
use Rattle.asn_tree.specs.declared.types.ASN1Type.{ASN1Type, ASN1Type-F}
use Rattle.asn_tree.specs.declared.types.Choice.{out-Choice, out-roll-Choice, roll-Choice, roll-out-Choice}
use Rattle.asn_tree.specs.declared.types.ChoiceOption.{ChoiceOption}
use Rattle.asn_tree.specs.declared.types.SequenceOrSet.{out-SequenceOrSet, out-roll-SequenceOrSet, roll-SequenceOrSet, roll-out-SequenceOrSet}
use Rattle.asn_tree.specs.declared.types.SequenceOrSetOf.{out-SequenceOrSetOf, out-roll-SequenceOrSetOf, roll-SequenceOrSetOf, roll-out-SequenceOrSetOf}
use Rattle.asn_meaning.specs.Definitions.{Definitions}
use Rattle.asn_meaning.specs.Kinds.{ChoiceKind, FieldKind, Kind, ListKind, ReferenceKind, SelectionKind, StructKind, kind_at, kind_of}
use Rattle.asn_meaning.specs.Layers.{ClassFieldLayer, ReferenceLayer, StructLayer, TypeLayer}
use Rattle.asn_meaning.specs.Meaning.{Meaning}
use Rattle.asn_meaning.specs.Names.{IsHead, lead_at, leading, list_at, lists_in, name_target, reference_of}
use Rattle.asn_meaning.specs.Placed.{listed}
use Rattle.asn_meaning.specs.Ranges.{codes_at, is_free_kind, named_numbers_in, numbers_at_head}
use Rattle.asn_meaning.specs.Scopes.{Place, Scope, bound_to}
use Rattle.asn_calls.specs.Types.{with_constraints_at}
use Rattle.asn_link_instance.specs.Heads.{Alike, KindForm, MadeMembers, MadeStruct}
use Rattle.asn_link_instance.specs.Instance.{followed_by, has_no_place}
use Rattle.asn_link_instance.specs.Subjects.{Choices}
use Rattle.asn_tree_notation.specs.Types.{constraints_at}
use Rattle.asn_link_instance.proofs.Holding.{Holds}

abbrev pub own : TypeLayer → List Constraint
own l = listed (constraints_at l)

-- the same layer with other constraints, among which the argument lists are the same
abbrev pub Beside : TypeLayer → TypeLayer → Type 0
Beside l r = (cs : List Constraint) × (r ≡ with_constraints_at l cs) × (lists_in (own r) ≡ lists_in (own l))

own_again : (l : TypeLayer) → with_constraints_at l (own l) ≡ l
own_again (ASN1Type-F.ASN1Type::Choice x) = ap ASN1Type-F.ASN1Type::Choice (roll-out-Choice x)
own_again (ASN1Type-F.Sequence x) = ap ASN1Type-F.Sequence (roll-out-SequenceOrSet x)
own_again (ASN1Type-F.Set x) = ap ASN1Type-F.Set (roll-out-SequenceOrSet x)
own_again (ASN1Type-F.SequenceOf x) = ap ASN1Type-F.SequenceOf (roll-out-SequenceOrSetOf x)
own_again (ASN1Type-F.SetOf x) = ap ASN1Type-F.SetOf (roll-out-SequenceOrSetOf x)
own_again _ = refl

pub with_again : (l : TypeLayer) (cs ds : List Constraint) → with_constraints_at (with_constraints_at l cs) ds ≡ with_constraints_at l ds
with_again (ASN1Type-F.ASN1Type::Choice x) cs ds = ap (λ z. ASN1Type-F.ASN1Type::Choice (roll-Choice (record z { constraints = ds }))) (out-roll-Choice (record (out-Choice x) { constraints = cs }))
with_again (ASN1Type-F.Sequence x) cs ds = ap (λ z. ASN1Type-F.Sequence (roll-SequenceOrSet (record z { constraints = ds }))) (out-roll-SequenceOrSet (record (out-SequenceOrSet x) { constraints = cs }))
with_again (ASN1Type-F.Set x) cs ds = ap (λ z. ASN1Type-F.Set (roll-SequenceOrSet (record z { constraints = ds }))) (out-roll-SequenceOrSet (record (out-SequenceOrSet x) { constraints = cs }))
with_again (ASN1Type-F.SequenceOf x) cs ds = ap (λ z. ASN1Type-F.SequenceOf (roll-SequenceOrSetOf (record z { constraints = ds }))) (out-roll-SequenceOrSetOf (record (out-SequenceOrSetOf x) { constraints = cs }))
with_again (ASN1Type-F.SetOf x) cs ds = ap (λ z. ASN1Type-F.SetOf (roll-SequenceOrSetOf (record z { constraints = ds }))) (out-roll-SequenceOrSetOf (record (out-SequenceOrSetOf x) { constraints = cs }))
with_again _ cs ds = refl

pub same_beside : (l : TypeLayer) → Beside l l
same_beside l = (own l, sym (own_again l), refl)

pub beside_through : (l m r : TypeLayer) → Beside l m → Beside m r → Beside l r
beside_through l m r (bs, e, f) (cs, g, h) = (cs, g ∙ ap (λ z. with_constraints_at z cs) e ∙ with_again l bs cs, h ∙ f)

-- ---- argument lists

pub lists_append : (cs ds : List Constraint) → lists_in ds ≡ [] → lists_in (cs ++ ds) ≡ lists_in cs
lists_append [] ds f = f
lists_append (c ∷ cs) ds f = ap (list_at (out-Constraint c)) (lists_append cs ds f)

-- ---- constraints that follow a layer's own

-- a layer that has place for constraints, and these are its own; or a head without such a place, under which every constraint says yes
abbrev pub Owns : TypeLayer → List Constraint → Type 0
Owns r cs = (own r ≡ cs) ⊎ ((is_free_kind (kind_at r) ≡ true) × ((defs : Definitions) (M : Meaning) (scope : Scope) → lead_at defs M scope (kind_at r) ≡ IsHead) × (own r ≡ []))

pub record Followed (l : TypeLayer) (zs : List Constraint) (r : TypeLayer) : Type 0 where
  pub beside : lists_in zs ≡ [] → Beside l r
  pub owns : Owns r (own l ++ zs)

pub followed : (l : TypeLayer) (zs : List Constraint) → Holds (followed_by l zs) (Followed l zs)
followed (ASN1Type-F.ChoiceSelectionType x) zs = tt
followed (ASN1Type-F.ASN1Type::Choice x) zs =
    let e = out-roll-Choice (record (out-Choice x) { constraints = (out-Choice x).constraints ++ zs }) in
    record { beside = λ f. (_, refl, ap (λ z. lists_in z.constraints) e ∙ lists_append _ zs f); owns = inl (ap (λ z. z.constraints) e) }
followed (ASN1Type-F.Sequence x) zs =
    let e = out-roll-SequenceOrSet (record (out-SequenceOrSet x) { constraints = (out-SequenceOrSet x).constraints ++ zs }) in
    record { beside = λ f. (_, refl, ap (λ z. lists_in z.constraints) e ∙ lists_append _ zs f); owns = inl (ap (λ z. z.constraints) e) }
followed (ASN1Type-F.Set x) zs =
    let e = out-roll-SequenceOrSet (record (out-SequenceOrSet x) { constraints = (out-SequenceOrSet x).constraints ++ zs }) in
    record { beside = λ f. (_, refl, ap (λ z. lists_in z.constraints) e ∙ lists_append _ zs f); owns = inl (ap (λ z. z.constraints) e) }
followed (ASN1Type-F.SequenceOf x) zs =
    let e = out-roll-SequenceOrSetOf (record (out-SequenceOrSetOf x) { constraints = (out-SequenceOrSetOf x).constraints ++ zs }) in
    record { beside = λ f. (_, refl, ap (λ z. lists_in z.constraints) e ∙ lists_append _ zs f); owns = inl (ap (λ z. z.constraints) e) }
followed (ASN1Type-F.SetOf x) zs =
    let e = out-roll-SequenceOrSetOf (record (out-SequenceOrSetOf x) { constraints = (out-SequenceOrSetOf x).constraints ++ zs }) in
    record { beside = λ f. (_, refl, ap (λ z. lists_in z.constraints) e ∙ lists_append _ zs f); owns = inl (ap (λ z. z.constraints) e) }
followed ASN1Type-F.ASN1Type::Null zs = record { beside = λ f. ([], refl, refl); owns = inr (refl, (λ defs M scope. refl), refl) }
followed ASN1Type-F.EmbeddedPdv zs = record { beside = λ f. ([], refl, refl); owns = inr (refl, (λ defs M scope. refl), refl) }
followed ASN1Type-F.External zs = record { beside = λ f. ([], refl, refl); owns = inr (refl, (λ defs M scope. refl), refl) }
followed l zs = record { beside = λ f. (own l ++ zs, refl, lists_append (own l) zs f); owns = inl refl }

-- a layer that has no place for constraints, with none
pub fallen : (l : TypeLayer) → has_no_place l ≡ true → Followed l [] l
fallen ASN1Type-F.ASN1Type::Null e = followed ASN1Type-F.ASN1Type::Null []
fallen ASN1Type-F.EmbeddedPdv e = followed ASN1Type-F.EmbeddedPdv []
fallen ASN1Type-F.External e = followed ASN1Type-F.External []
fallen _ e = absurd cc

pub own_fallen : (l : TypeLayer) → has_no_place l ≡ true → own l ≡ []
own_fallen ASN1Type-F.ASN1Type::Null e = refl
own_fallen ASN1Type-F.EmbeddedPdv e = refl
own_fallen ASN1Type-F.External e = refl
own_fallen _ e = absurd cc

-- ---- where a layer leads does not change with its constraints

reference_beside : (defs : Definitions) (scope : Scope) (x : ReferenceLayer) (cs : List Constraint) (o : Option (List ℕ)) → lists_in cs ≡ lists_in x.constraints → reference_of defs scope (record x { constraints = cs }) o ≡ reference_of defs scope x o
reference_beside defs scope x cs None f = ap (λ z. name_target defs scope x.identifier z (bound_to scope x.identifier)) f
reference_beside defs scope x cs (Some o) f = refl

lead_with : (defs : Definitions) (M : Meaning) (scope : Scope) (l : TypeLayer) (cs : List Constraint) → lists_in (own (with_constraints_at l cs)) ≡ lists_in (own l) →
    lead_at defs M scope (kind_at (with_constraints_at l cs)) ≡ lead_at defs M scope (kind_at l)
lead_with defs M scope (ASN1Type-F.ElsewhereDeclaredType x) cs f = ap leading (reference_beside defs scope x cs x.parent f)
lead_with defs M scope _ cs f = refl

pub lead_beside : (defs : Definitions) (M : Meaning) (scope : Scope) (l r : TypeLayer) → Beside l r → lead_at defs M scope (kind_at r) ≡ lead_at defs M scope (kind_at l)
lead_beside defs M scope l r (cs, e, f) =
    ap (λ z. lead_at defs M scope (kind_at z)) e ∙ lead_with defs M scope l cs (subst (λ z. lists_in (own z) ≡ lists_in (own l)) e f)

-- ---- what does not change with the parts of a kind

pub record Blind {A : Type 0} (f : Kind → A) : Type 0 where
  pub structs : (x y : StructLayer) → f (StructKind x) ≡ f (StructKind y)
  pub lists : (x y : ASN1Type) → f (ListKind x) ≡ f (ListKind y)
  pub choices : (x y : List ChoiceOption) → f (ChoiceKind x) ≡ f (ChoiceKind y)
  pub fields : (x y : ClassFieldLayer) → f (FieldKind x) ≡ f (FieldKind y)

pub free_blind : Blind is_free_kind
free_blind = record { structs = λ x y. refl; lists = λ x y. refl; choices = λ x y. refl; fields = λ x y. refl }

pub named_blind : Blind named_numbers_in
named_blind = record { structs = λ x y. refl; lists = λ x y. refl; choices = λ x y. refl; fields = λ x y. refl }

pub codes_blind : Blind codes_at
codes_blind = record { structs = λ x y. refl; lists = λ x y. refl; choices = λ x y. refl; fields = λ x y. refl }

pub numbers_blind : Blind numbers_at_head
numbers_blind = record { structs = λ x y. refl; lists = λ x y. refl; choices = λ x y. refl; fields = λ x y. refl }

-- kinds of layers that differ in their constraints alone
abbrev pub SameKind : Kind → Kind → Type 0
SameKind (StructKind x) c = (y : StructLayer) × (c ≡ StructKind y) × (y.components_of ≡ x.components_of) × (y.extensible ≡ x.extensible) × (y.members ≡ x.members)
SameKind (FieldKind x) c = (y : ClassFieldLayer) × (c ≡ FieldKind y)
SameKind (ReferenceKind x) c = (y : ReferenceLayer) × (c ≡ ReferenceKind y)
SameKind a c = c ≡ a

kind_with : (l : TypeLayer) (cs : List Constraint) → SameKind (kind_at l) (kind_at (with_constraints_at l cs))
kind_with (ASN1Type-F.Sequence x) cs = (record (out-SequenceOrSet x) { constraints = cs }, ap StructKind (out-roll-SequenceOrSet _), refl, refl, refl)
kind_with (ASN1Type-F.Set x) cs = (record (out-SequenceOrSet x) { constraints = cs }, ap StructKind (out-roll-SequenceOrSet _), refl, refl, refl)
kind_with (ASN1Type-F.SequenceOf x) cs = ap (λ z. ListKind z.element_type) (out-roll-SequenceOrSetOf (record (out-SequenceOrSetOf x) { constraints = cs }))
kind_with (ASN1Type-F.SetOf x) cs = ap (λ z. ListKind z.element_type) (out-roll-SequenceOrSetOf (record (out-SequenceOrSetOf x) { constraints = cs }))
kind_with (ASN1Type-F.ASN1Type::Choice x) cs = ap (λ z. ChoiceKind z.options) (out-roll-Choice (record (out-Choice x) { constraints = cs }))
kind_with (ASN1Type-F.InformationObjectFieldReference x) cs = (record x { constraints = cs }, refl)
kind_with (ASN1Type-F.ElsewhereDeclaredType x) cs = (record x { constraints = cs }, refl)
kind_with _ cs = refl

kind_beside : (l r : TypeLayer) → Beside l r → SameKind (kind_at l) (kind_at r)
kind_beside l r (cs, e, f) = subst (λ z. SameKind (kind_at l) (kind_at z)) (sym e) (kind_with l cs)

same_kind : {A : Type 0} (f : Kind → A) → Blind f → ((x y : ReferenceLayer) → f (ReferenceKind x) ≡ f (ReferenceKind y)) → (a c : Kind) → SameKind a c → f c ≡ f a
same_kind f b r (StructKind x) c q = ap f q.1 ∙ b.structs q.0 x
same_kind f b r (FieldKind x) c (y, e) = ap f e ∙ b.fields y x
same_kind f b r (ReferenceKind x) c (y, e) = ap f e ∙ r y x
same_kind f b r _ c e = ap f e

-- what does not change with parts does not change with constraints
pub blind_beside : {A : Type 0} (f : Kind → A) → Blind f → ((x y : ReferenceLayer) → f (ReferenceKind x) ≡ f (ReferenceKind y)) → (l r : TypeLayer) → Beside l r → f (kind_at r) ≡ f (kind_at l)
blind_beside f b r l u s = same_kind f b r (kind_at l) (kind_at u) (kind_beside l u s)

module _ (C : Choices) (defs : Definitions) where
  pub form_blind : {A : Type 0} (f : Kind → A) → Blind f → (floor k : ℕ) (scope : Scope) (a c : Kind) → KindForm C defs floor k scope a c → f c ≡ f a
  form_blind f b floor k scope (StructKind x) c (y, e, p) = ap f e ∙ b.structs y x
  form_blind f b floor k scope (ListKind x) c (y, e, p) = ap f e ∙ b.lists y x
  form_blind f b floor k scope (ChoiceKind x) c (y, e, p) = ap f e ∙ b.choices y x
  form_blind f b floor k scope (FieldKind x) c (y, e) = ap f e ∙ b.fields y x
  form_blind f b floor k scope (ReferenceKind x) c p = absurd p
  form_blind f b floor k scope (SelectionKind x) c p = absurd p
  form_blind f b floor k scope _ c e = ap f e

  pub alike_blind : (others : Definitions) {A : Type 0} (f : Kind → A) → Blind f → (j : ℕ) (h k : Place) → Alike C defs others j h k → f (kind_of k) ≡ f (kind_of h)
  alike_blind others f b j h k (inl (e, s)) = ap (λ z. f (kind_of z)) (sym e)
  alike_blind others f b j h k (inr (s, (floor, i, n, p))) = form_blind f b floor i h.scope (kind_of h) (kind_of k) p

  same_struct : (floor k : ℕ) (scope : Scope) (x y z : StructLayer) → MadeStruct C defs floor k scope x y → z.components_of ≡ y.components_of → z.extensible ≡ y.extensible → z.members ≡ y.members → MadeStruct C defs floor k scope x z
  same_struct floor k scope x y z (e, (ms, f, p)) components extensible members =
      (components ∙ e, (ms, f, subst (λ u. MadeMembers C defs floor k u 0 ms z.members) (sym extensible) (subst (λ u. MadeMembers C defs floor k y.extensible 0 ms u) (sym members) p)))

  form_same : (floor k : ℕ) (scope : Scope) (a b c : Kind) → KindForm C defs floor k scope a b → SameKind b c → KindForm C defs floor k scope a c
  form_same floor k scope (StructKind x) b c (y, e, p) s =
      let q = subst (λ u. SameKind u c) e s in
      (q.0, q.1, same_struct floor k scope x y q.0 p q.2 q.3 q.4)
  form_same floor k scope (ListKind x) b c (y, e, p) s = (y, subst (λ u. SameKind u c) e s, p)
  form_same floor k scope (ChoiceKind x) b c (y, e, p) s = (y, subst (λ u. SameKind u c) e s, p)
  form_same floor k scope (FieldKind x) b c (y, e) s = subst (λ u. SameKind u c) e s
  form_same floor k scope (ReferenceKind x) b c p s = absurd p
  form_same floor k scope (SelectionKind x) b c p s = absurd p
  form_same floor k scope _ b c e s = subst (λ u. SameKind u c) e s

  -- a form with other constraints is one
  pub form_beside : (floor k : ℕ) (scope : Scope) (a : Kind) (r u : TypeLayer) → KindForm C defs floor k scope a (kind_at r) → Beside r u → KindForm C defs floor k scope a (kind_at u)
  form_beside floor k scope a r u p s = form_same floor k scope a (kind_at r) (kind_at u) p (kind_beside r u s)
