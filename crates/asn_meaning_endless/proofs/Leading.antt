-- Where a type leads, in a scope in which some dummies have got arguments.
use Rattle.std.proofs.Common.{◌≡◌, ℕ, zero, suc, ◌⊎◌, inl, inr, Bool, List, [], ◌∷◌, Option, Some, None, refl, sym, subst, ap, ◌∙◌, if◌then◌else◌}
use Rattle.asn_tree.specs.declared.constraints.Parameter.{Parameter, Parameter-F, out-Parameter}
use Rattle.asn_tree.specs.declared.definitions.ParameterGovernor.{ParameterGovernor}
use Rattle.asn_tree.specs.declared.definitions.ParameterGovernor.TheVariants as governor
use Rattle.asn_tree.specs.declared.definitions.Parameterization.{Parameterization}
use Rattle.asn_tree.specs.declared.definitions.ToplevelTypeDefinition.{ToplevelTypeDefinition}
use Rattle.asn_tree_kinds.specs.declared.types.ChoiceSelectionType.{ChoiceSelectionType}
use Rattle.asn_meaning.specs.Accepts.{place}
use Rattle.asn_meaning.specs.Answers.{once}
use Rattle.asn_meaning.specs.Definitions.{Definitions, class_named, object_named, type_named}
use Rattle.asn_meaning.specs.Judge.{meaning, nothing_known, step}
use Rattle.asn_meaning.specs.Kinds.{Kind, NullKind, FieldKind, ReferenceKind, SelectionKind, kind_of}
use Rattle.asn_meaning.specs.Layers.{ClassFieldLayer, OptionLayer, ParameterLayer, ReferenceLayer}
use Rattle.asn_meaning.specs.Written.{as_written}
use Rattle.asn_tree.specs.declared.objects.InformationObjectField.{out-InformationObjectField}
use Rattle.asn_meaning.specs.Meaning.{Meaning}
use Rattle.asn_meaning.specs.Names.{Lead, IsHead, LeadsTo, IsLost, class_field_type, dummy_target, field_lead, field_target, fixed_or_open, head_from, head_named, instance, lead, lead_at, leading, lists_in, name_target, null_type, option_named, options_of, plain_name, reference_of, selection_target, type_argument, type_of_field, marked}
use Rattle.asn_meaning.specs.Objects.{field_at_path, given}
use Rattle.asn_meaning.specs.Scopes.{Scope, Empty, Argument, Bound, bound_to, entered, Place, Target, bare}
use Rattle.asn_meaning_endless.proofs.Filling.{ArgumentFilled, BoundFilled, Fills, PlaceFilled, ScopeFilled, bound_filled, dummy_filled, entered_filled, place_itself}

-- What is lost may lead somewhere once a dummy has an argument; what leads somewhere leads to the same type, or is lost within fewer steps.
abbrev pub LeadFilled : Lead → Lead → Type 0
LeadFilled IsHead b = b ≡ IsHead
LeadFilled (LeadsTo x) b = (b ≡ IsLost) ⊎ ((y : Target) × PlaceFilled x.place y.place × (b ≡ LeadsTo y))
LeadFilled IsLost b = Unit {0}

same_lead : (a : Lead) → LeadFilled a a
same_lead IsHead = refl
same_lead (LeadsTo x) = inr (x, place_itself x.place, refl)
same_lead IsLost = tt

as_before : (a b : Lead) → b ≡ a → LeadFilled a b
as_before a b e = subst (LeadFilled a) (sym e) (same_lead a)

-- ---- names

bare_filled : (s t : Scope) → Fills s t → (d : ToplevelTypeDefinition) (x y : Option Scope) → ScopeFilled x y →
    LeadFilled (leading (once None x (λ inner. Some (bare inner d.ty)))) (leading (once None y (λ inner. Some (bare inner d.ty))))
bare_filled s t f d None y r = tt
bare_filled s t f d (Some o) y (u, h, e) = inr (bare u d.ty, (u, h, refl), ap (λ z. leading (once None z (λ inner. Some (bare inner d.ty)))) e)

instance_filled : (s t : Scope) → Fills s t → (d : ToplevelTypeDefinition) (o : Option Parameterization) (lists : List (List Parameter)) →
    LeadFilled (leading (instance s d o lists)) (leading (instance t d o lists))
instance_filled s t f d None [] = same_lead (LeadsTo (bare Empty d.ty))
instance_filled s t f d None (list ∷ lists) = tt
instance_filled s t f d (Some template) [] = tt
instance_filled s t f d (Some template) (list ∷ []) = bare_filled s t f d (entered s template.parameters list) (entered t template.parameters list) (entered_filled s t f template.parameters list)
instance_filled s t f d (Some template) (list ∷ more ∷ lists) = tt

argument_filled : (s t : Scope) → Fills s t → (l : ParameterLayer) → LeadFilled (leading (type_argument s l)) (leading (type_argument t l))
argument_filled s t f (Parameter-F.ValueParameter v) = same_lead (leading (null_type (as_written v)))
argument_filled s t f (Parameter-F.TypeParameter ty) = inr (bare t ty, (t, f, refl), refl)
argument_filled s t f (Parameter-F.InformationObjectParameter fields) = tt
argument_filled s t f (Parameter-F.ObjectSetParameter set) = tt

given_filled : (a c : Option Argument) → ArgumentFilled a c →
    LeadFilled (leading (once None a (λ x. type_argument x.scope (out-Parameter x.tree)))) (leading (once None c (λ x. type_argument x.scope (out-Parameter x.tree))))
given_filled None c r = tt
given_filled (Some a) c (s, f, e) =
    subst (λ z. LeadFilled (leading (type_argument a.scope (out-Parameter a.tree))) (leading (once None z (λ x. type_argument x.scope (out-Parameter x.tree))))) (sym e)
    (argument_filled a.scope s f (out-Parameter a.tree))

dummy_filled_lead : (b c : Bound) → ArgumentFilled b.argument c.argument → (g : ParameterGovernor) (lists : List (List Parameter)) →
    LeadFilled (leading (dummy_target b g lists)) (leading (dummy_target c g lists))
dummy_filled_lead b c a governor.None [] = given_filled b.argument c.argument a
dummy_filled_lead b c a governor.None (list ∷ lists) = tt
dummy_filled_lead b c a (governor.TypeOrClass g) lists = tt
dummy_filled_lead b c a (governor.Class name) lists = tt

module _ (defs : Definitions) where
  defined_filled : (s t : Scope) → Fills s t → (lists : List (List Parameter)) (o : Option ToplevelTypeDefinition) →
      LeadFilled (leading (once None o (λ d. instance s d d.parameterization lists))) (leading (once None o (λ d. instance t d d.parameterization lists)))
  defined_filled s t f lists None = tt
  defined_filled s t f lists (Some d) = instance_filled s t f d d.parameterization lists

  name_filled : (s t : Scope) → Fills s t → (name : List ℕ) (lists : List (List Parameter)) (o u : Option Bound) → BoundFilled o u →
      LeadFilled (leading (name_target defs s name lists o)) (leading (name_target defs t name lists u))
  name_filled s t f name lists None u e =
      subst (λ z. LeadFilled (leading (name_target defs s name lists None)) (leading (name_target defs t name lists z))) (sym e) (defined_filled s t f lists (type_named defs name))
  name_filled s t f name lists (Some b) u (c, g, a, e) =
      subst (λ z. LeadFilled (leading (name_target defs s name lists (Some b))) (leading (name_target defs t name lists z))) (sym e)
      (subst (λ z. LeadFilled (leading (dummy_target b b.governor lists)) (leading (dummy_target c z lists))) (sym g) (dummy_filled_lead b c a b.governor lists))

  -- ---- fields

  object_type : List ℕ → List ℕ → Bool → Option Target
  object_type name field is_dummy = once None (if is_dummy then None else once None (object_named defs name) (λ o. given defs o (marked field))) (λ f. type_of_field (out-InformationObjectField f))

  field_filled : (s t : Scope) → Fills s t → (name field : List ℕ) → LeadFilled (leading (field_target defs s name field)) (leading (field_target defs t name field))
  unfolding object_type
  field_filled s t f name field = as_before (leading (field_target defs s name field)) (leading (field_target defs t name field)) (ap (λ b. leading (object_type name field b)) (dummy_filled s t f name))

  reference_filled : (s t : Scope) → Fills s t → (x : ReferenceLayer) (parent : Option (List ℕ)) → LeadFilled (leading (reference_of defs s x parent)) (leading (reference_of defs t x parent))
  reference_filled s t f x None = name_filled s t f x.identifier (lists_in x.constraints) (bound_to s x.identifier) (bound_to t x.identifier) (bound_filled s t f x.identifier)
  reference_filled s t f x (Some o) = field_filled s t f o x.identifier

  -- ---- selections

  -- what has a head on both sides has the same one, with arguments for some dummies
  abbrev pub HeadFilled : Meaning → Meaning → Type 0
  HeadFilled M N = (p q : Place) → PlaceFilled p q → (h k : Place) → M.head p ≡ Some h → N.head q ≡ Some k → PlaceFilled h k

  abbrev option_of : Scope → OptionLayer → Option Target
  option_of s o = Some (record { place = record { scope = s; ty = o.ty }; constraints = o.constraints })

  option_filled : (s t : Scope) → Fills s t → (o : Option OptionLayer) → LeadFilled (leading (once None o (option_of s))) (leading (once None o (option_of t)))
  option_filled s t f None = tt
  option_filled s t f (Some o) = inr (record { place = record { scope = t; ty = o.ty }; constraints = o.constraints }, (t, f, refl), refl)

  abbrev selected : List ℕ → Place → Option Target
  selected name h = once None (option_named (options_of h) name) (option_of h.scope)

  selected_filled : (name : List ℕ) (h k : Place) → PlaceFilled h k → LeadFilled (leading (selected name h)) (leading (selected name k))
  selected_filled name h k (s, f, e) =
      subst (λ z. LeadFilled (leading (selected name h)) (leading (selected name z))) (sym e) (option_filled h.scope s f (option_named (options_of h) name))

  choice_filled : (name : List ℕ) (a b : Option Place) → ((h k : Place) → a ≡ Some h → b ≡ Some k → PlaceFilled h k) →
      LeadFilled (leading (once None a (selected name))) (leading (once None b (selected name)))
  choice_filled name None b r = tt
  choice_filled name (Some h) (Some k) r = selected_filled name h k (r h k refl refl)
  choice_filled name (Some h) None r = lost (selected name h)
    where
      lost : (o : Option Target) → LeadFilled (leading o) IsLost
      lost None = tt
      lost (Some x) = inl refl

  selection_filled : (M N : Meaning) → HeadFilled M N → (s t : Scope) → Fills s t → (x : ChoiceSelectionType) → LeadFilled (leading (selection_target M s x)) (leading (selection_target N t x))
  selection_filled M N r s t f x =
      choice_filled x.selected_option (head_named M s x.choice_name) (head_named N t x.choice_name)
      (λ h k. r (place s (plain_name x.choice_name)) (place t (plain_name x.choice_name)) (t, f, refl) h k)

  -- ---- all kinds

  class_field_kept : (s t : Scope) → Fills s t → (x : ClassFieldLayer) → class_field_type defs t x ≡ class_field_type defs s x
  class_field_kept s t f x =
      ap (λ b. if b then None else once None (class_named defs x.class) (λ c. once None (field_at_path c x.field_path) (λ y. fixed_or_open defs y.ty))) (dummy_filled s t f x.class)

  lead_at_filled : (M N : Meaning) → HeadFilled M N → (s t : Scope) → Fills s t → (k : Kind) → LeadFilled (lead_at defs M s k) (lead_at defs N t k)
  lead_at_filled M N r s t f NullKind = refl
  lead_at_filled M N r s t f (ReferenceKind x) = reference_filled s t f x x.parent
  lead_at_filled M N r s t f (SelectionKind x) = selection_filled M N r s t f x
  lead_at_filled M N r s t f (FieldKind x) = as_before (field_lead (class_field_type defs s x)) (field_lead (class_field_type defs t x)) (ap field_lead (class_field_kept s t f x))
  lead_at_filled M N r s t f _ = refl

  pub lead_filled : (M N : Meaning) → HeadFilled M N → (p q : Place) → PlaceFilled p q → LeadFilled (lead defs M p) (lead defs N q)
  lead_filled M N r p q (s, f, e) = subst (λ z. LeadFilled (lead defs M p) (lead defs N z)) (sym e) (lead_at_filled M N r p.scope s f (kind_of p))

  -- ---- heads

  pub no_steps : (p : Place) → (meaning defs zero).head p ≡ None
  unfolding meaning nothing_known
  no_steps p = refl

  pub one_step : (n : ℕ) (p : Place) → (meaning defs (suc n)).head p ≡ head_from (meaning defs n) p (lead defs (meaning defs n) p)
  unfolding meaning step
  one_step n p = refl

  by_lead : (M N : Meaning) → HeadFilled M N → (p q : Place) → PlaceFilled p q → (a b : Lead) → LeadFilled a b → (h k : Place) → head_from M p a ≡ Some h → head_from N q b ≡ Some k → PlaceFilled h k
  by_lead M N r p q f IsHead b e h k i j =
      let one : p ≡ h = cc in
      let two : q ≡ k = subst (λ z. head_from N q z ≡ Some k → q ≡ k) (sym e) (λ x. cc) j in
      subst (λ z. PlaceFilled z k) one (subst (PlaceFilled p) two f)
  by_lead M N r p q f (LeadsTo x) b (inl e) h k i j = absurd (lost (sym (ap (head_from N q) e) ∙ j))
    where
      lost : None ≡ Some k → ⊥
      lost z = absurd cc
  by_lead M N r p q f (LeadsTo x) b (inr (y, g, e)) h k i j = r x.place y.place g h k i (sym (ap (head_from N q) e) ∙ j)
  by_lead M N r p q f IsLost b e h k i j = absurd cc

  pub agree : (m n : ℕ) → HeadFilled (meaning defs m) (meaning defs n)
  agree zero n p q f h k i j = absurd (nothing (sym (no_steps p) ∙ i))
    where
      nothing : None ≡ Some h → ⊥
      nothing z = absurd cc
  agree (suc m) zero p q f h k i j = absurd (nothing (sym (no_steps q) ∙ j))
    where
      nothing : None ≡ Some k → ⊥
      nothing z = absurd cc
  agree (suc m) (suc n) p q f h k i j =
      by_lead (meaning defs m) (meaning defs n) (agree m n) p q f (lead defs (meaning defs m) p) (lead defs (meaning defs n) q)
      (lead_filled (meaning defs m) (meaning defs n) (agree m n) p q f) h k (sym (one_step m p) ∙ i) (sym (one_step n q) ∙ j)
