-- Where that leads which goes by something: to the type behind it, in a scope that fills the open one.
use Rattle.std.proofs.Common.{◌≡◌, ℕ, Bool, List, [], ◌∷◌, Option, Some, None, refl, sym, subst, ap, ◌∙◌, if◌then◌else◌}
use Rattle.std.specs.Prelude.{is_some}
use Rattle.asn_tree_leaves.specs.declared.objects.ObjectFieldIdentifier.{ObjectFieldIdentifier}
use Rattle.asn_tree.specs.declared.constraints.Parameter.{Parameter}
use Rattle.asn_tree.specs.declared.definitions.Parameterization.{Parameterization}
use Rattle.asn_tree.specs.declared.definitions.ToplevelTypeDefinition.{ToplevelTypeDefinition}
use Rattle.asn_tree.specs.declared.objects.InformationObjectClass.{InformationObjectClass}
use Rattle.asn_tree.specs.declared.objects.InformationObjectClassField.{InformationObjectClassField}
use Rattle.asn_meaning.specs.Accepts.{place}
use Rattle.asn_meaning.specs.Answers.{once}
use Rattle.asn_meaning.specs.Definitions.{Definitions, class_named, object_named, type_named}
use Rattle.asn_meaning.specs.Kinds.{Kind, NullKind, FieldKind, ReferenceKind, kind_of}
use Rattle.asn_meaning.specs.Layers.{ClassFieldLayer, ReferenceLayer}
use Rattle.asn_meaning.specs.Meaning.{Meaning}
use Rattle.asn_meaning.specs.Names.{FieldType, Open, Fixed, Lead, IsHead, LeadsTo, IsLost, class_field_type, field_lead, field_target, fixed_or_open, instance, lead, lead_at, leading, lists_in, marked, name_target, reference_of, type_of_field}
use Rattle.asn_meaning.specs.Objects.{field_at_path, given}
use Rattle.asn_meaning.specs.Scopes.{Scope, Empty, Bound, bound_to, entered, Place, Target, bare}
use Rattle.asn_tree.specs.declared.objects.InformationObjectField.{out-InformationObjectField}
use Rattle.asn_meaning_endless.specs.Keys.{Key, ByName, ByObject, ByField, behind, fixed_place, key, key_at, left_open, open_scope, reference_key, unless_dummy}
use Rattle.asn_meaning_endless.proofs.Filling.{Fills, Opened, PlaceFilled, dummy_filled, opened, place_itself}

-- it leads to this place, with arguments for its dummies, or is lost
abbrev pub Enters : Place → Lead → Type 0
Enters g IsHead = ⊥
Enters g (LeadsTo y) = PlaceFilled g y.place
Enters g IsLost = Unit {0}

-- ---- names

-- what is told of a name that is no dummy: the name is none
pub no_dummy : (o : Option Bound) (k goal : Key) → (if is_some o then None else Some k) ≡ Some goal → (o ≡ None) × (k ≡ goal)
no_dummy None k goal e = (refl, cc)
no_dummy (Some b) k goal e = absurd cc

filled_place : (s : Scope) (d : ToplevelTypeDefinition) (x : Option Scope) (o : Scope) → Opened o x → Enters (place o d.ty) (leading (once None x (λ inner. Some (bare inner d.ty))))
filled_place s d None o h = tt
filled_place s d (Some t) o h = (t, h, refl)

instance_enters : (s : Scope) (d : ToplevelTypeDefinition) (o : Option Parameterization) (lists : List (List Parameter)) → Enters (place (open_scope o) d.ty) (leading (instance s d o lists))
instance_enters s d None [] = (Empty, refl, refl)
instance_enters s d None (list ∷ lists) = tt
instance_enters s d (Some template) [] = tt
instance_enters s d (Some template) (list ∷ []) = filled_place s d (entered s template.parameters list) (left_open template.parameters) (opened s template.parameters list)
instance_enters s d (Some template) (list ∷ more ∷ lists) = tt

type_enters : (s : Scope) (lists : List (List Parameter)) (o : Option ToplevelTypeDefinition) (g : Place) →
    once None o (λ d. Some (place (open_scope d.parameterization) d.ty)) ≡ Some g → Enters g (leading (once None o (λ d. instance s d d.parameterization lists)))
type_enters s lists None g e = tt
type_enters s lists (Some d) g e =
    let same : place (open_scope d.parameterization) d.ty ≡ g = cc in
    subst (λ z. Enters z (leading (instance s d d.parameterization lists))) same (instance_enters s d d.parameterization lists)

-- ---- fields

same_place : (o : Option Target) (g : Place) → once None o (λ x. Some x.place) ≡ Some g → Enters g (leading o)
same_place None g e = tt
same_place (Some x) g e = let same : x.place ≡ g = cc in subst (λ z. PlaceFilled z x.place) same (place_itself x.place)

fixed_enters : (o : Option FieldType) (g : Place) → once None o fixed_place ≡ Some g → Enters g (field_lead o)
fixed_enters None g e = tt
fixed_enters (Some Open) g e = absurd cc
fixed_enters (Some (Fixed ty)) g e = let same : place Empty ty ≡ g = cc in subst (λ z. PlaceFilled z (place Empty ty)) same (place_itself (place Empty ty))

module _ (defs : Definitions) where
  field_enters : (o : Option InformationObjectClassField) (g : Place) → once None o (λ f. once None (fixed_or_open defs f.ty) fixed_place) ≡ Some g →
      Enters g (field_lead (once None o (λ f. fixed_or_open defs f.ty)))
  field_enters None g e = tt
  field_enters (Some f) g e = fixed_enters (fixed_or_open defs f.ty) g e

  class_enters : (path : List ObjectFieldIdentifier) (o : Option InformationObjectClass) (g : Place) →
      once None o (λ c. once None (field_at_path c path) (λ f. once None (fixed_or_open defs f.ty) fixed_place)) ≡ Some g →
      Enters g (field_lead (once None o (λ c. once None (field_at_path c path) (λ f. fixed_or_open defs f.ty))))
  class_enters path None g e = tt
  class_enters path (Some c) g e = field_enters (field_at_path c path) g e

  object_type : List ℕ → List ℕ → Bool → Option Target
  object_type name field is_dummy = once None (if is_dummy then None else once None (object_named defs name) (λ o. given defs o (marked field))) (λ f. type_of_field (out-InformationObjectField f))

  -- an object that is no dummy is the same in every scope
  object_kept : (s : Scope) (o field : List ℕ) → bound_to s o ≡ None → field_target defs s o field ≡ field_target defs Empty o field
  unfolding object_type
  object_kept s o field e = ap (λ b. object_type o field (is_some b)) e

  class_kept : (s : Scope) (x : ClassFieldLayer) → bound_to s x.class ≡ None → class_field_type defs s x ≡ once None (class_named defs x.class) (λ c. once None (field_at_path c x.field_path) (λ f. fixed_or_open defs f.ty))
  class_kept s x e = ap (λ o. if is_some o then None else once None (class_named defs x.class) (λ c. once None (field_at_path c x.field_path) (λ f. fixed_or_open defs f.ty))) e

  -- ---- all kinds

  reference_enters : (s : Scope) (x : ReferenceLayer) (parent : Option (List ℕ)) (goal : Key) (g : Place) → reference_key s x parent ≡ Some goal → behind defs goal ≡ Some g →
      Enters g (leading (reference_of defs s x parent))
  reference_enters s x None goal g e b =
      let w : (bound_to s x.identifier ≡ None) × (ByName x.identifier ≡ goal) = no_dummy (bound_to s x.identifier) (ByName x.identifier) goal e in
      subst (λ o. Enters g (leading (name_target defs s x.identifier (lists_in x.constraints) o))) (sym w.0)
      (type_enters s (lists_in x.constraints) (type_named defs x.identifier) g (ap (behind defs) w.1 ∙ b))
  reference_enters s x (Some o) goal g e b =
      let w : (bound_to s o ≡ None) × (ByObject o x.identifier ≡ goal) = no_dummy (bound_to s o) (ByObject o x.identifier) goal e in
      subst (λ t. Enters g (leading t)) (sym (object_kept s o x.identifier w.0)) (same_place (field_target defs Empty o x.identifier) g (ap (behind defs) w.1 ∙ b))

  kind_enters : (N : Meaning) (s : Scope) (k : Kind) (goal : Key) (g : Place) → key_at s k ≡ Some goal → behind defs goal ≡ Some g → Enters g (lead_at defs N s k)
  kind_enters N s NullKind goal g e b = absurd cc
  kind_enters N s (ReferenceKind x) goal g e b = reference_enters s x x.parent goal g e b
  kind_enters N s (FieldKind x) goal g e b =
      let w : (bound_to s x.class ≡ None) × (ByField x.class x.field_path ≡ goal) = no_dummy (bound_to s x.class) (ByField x.class x.field_path) goal e in
      subst (λ t. Enters g (field_lead t)) (sym (class_kept s x w.0)) (class_enters x.field_path (class_named defs x.class) g (ap (behind defs) w.1 ∙ b))
  kind_enters N s _ goal g e b = absurd cc

  pub enters : (N : Meaning) (p : Place) (goal : Key) (g : Place) → key p ≡ Some goal → behind defs goal ≡ Some g → Enters g (lead defs N p)
  enters N p goal g e b = kind_enters N p.scope (kind_of p) goal g e b

-- ---- more arguments

told_kept : (s t : Scope) → Fills s t → (name : List ℕ) (k : Key) → unless_dummy t name k ≡ unless_dummy s name k
told_kept s t f name k = ap (λ b. if b then None else Some k) (dummy_filled s t f name)

reference_key_kept : (s t : Scope) → Fills s t → (x : ReferenceLayer) (parent : Option (List ℕ)) → reference_key t x parent ≡ reference_key s x parent
reference_key_kept s t f x None = told_kept s t f x.identifier (ByName x.identifier)
reference_key_kept s t f x (Some o) = told_kept s t f o (ByObject o x.identifier)

key_at_kept : (s t : Scope) → Fills s t → (k : Kind) → key_at t k ≡ key_at s k
key_at_kept s t f NullKind = refl
key_at_kept s t f (ReferenceKind x) = reference_key_kept s t f x x.parent
key_at_kept s t f (FieldKind x) = told_kept s t f x.class (ByField x.class x.field_path)
key_at_kept s t f _ = refl

-- what a type goes by it goes by under more arguments too
pub key_kept : (p q : Place) → PlaceFilled p q → key q ≡ key p
key_kept p q (s, f, e) = ap key e ∙ key_at_kept p.scope s f (kind_of p)
