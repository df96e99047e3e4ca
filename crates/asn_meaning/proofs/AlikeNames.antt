-- Where names lead, where tags differ.
use Rattle.std.specs.Prelude.{is_none, is_some, if◌then◌else◌}
use Rattle.std.specs.Option.{option_map}
use Rattle.std.proofs.Common.{◌≡◌, ℕ, ◌&&◌, List, [], ◌∷◌, map, Option, Some, None, refl, sym, subst, ap, ◌∙◌}
use Rattle.asn_tree.specs.Passes.{constraint_parts, field_parts, parameter_parts, type_parts, rewritten_option}
use Rattle.asn_tree.specs.declared.constraints.Constraint.{Constraint, Constraint-F, out-Constraint}
use Rattle.asn_tree.specs.declared.constraints.Parameter.{Parameter, Parameter-F, out-Parameter}
use Rattle.asn_tree.specs.declared.definitions.ParameterGovernor.{ParameterGovernor}
use Rattle.asn_tree.specs.declared.definitions.ParameterGovernor.TheVariants as governor
use Rattle.asn_tree.specs.declared.definitions.Parameterization.{Parameterization}
use Rattle.asn_tree.specs.declared.definitions.ParameterizationArgument.{ParameterizationArgument}
use Rattle.asn_tree.specs.declared.definitions.ToplevelTypeDefinition.{ToplevelTypeDefinition}
use Rattle.asn_tree.specs.declared.objects.InformationObject.{InformationObject}
use Rattle.asn_tree.specs.declared.objects.InformationObjectClassField.{InformationObjectClassField}
use Rattle.asn_tree.specs.declared.objects.InformationObjectField.{InformationObjectField, InformationObjectField-F, out-InformationObjectField}
use Rattle.asn_tree.specs.declared.types.ASN1Type.{ASN1Type}
use Rattle.asn_tree.specs.declared.types.ASN1Type.TheVariants as type_of_kind
use Rattle.asn_tree.specs.declared.types.ChoiceOption.{ChoiceOption, out-ChoiceOption}
use Rattle.asn_meaning.specs.Answers.{once}
use Rattle.std.specs.Str.{bytes_eq}
use Rattle.asn_meaning.specs.Definitions.{Definitions, class_named, is_class, object_named}
use Rattle.asn_meaning.specs.Kinds.{Kind, ReferenceKind, kind_of_type}
use Rattle.asn_meaning.specs.Layers.{ClassFieldLayer, ConstraintLayer, FieldLayer, OptionLayer, ParameterLayer, ReferenceLayer}
use Rattle.asn_meaning.specs.Names.{list_at, lists_in, instance, null_type, type_argument, dummy_target, name_target, type_of_field, marked, object_field, field_target, reference_of, reference_target, plain_name, option_named, FieldType, Open, Fixed, fixed_at, fixed_or_open, class_field_type, object_field_type}
use Rattle.asn_meaning.specs.Objects.{field_of, field_at_path, given}
use Rattle.asn_meaning.specs.Scopes.{Scope, Empty, Binds, Argument, Bound, bound_to, entered, Place, Target, bare}
use Rattle.asn_meaning.specs.Tags.{TagChange, BothAlike, DifferInTags, PlacesAlike, ScopesAlike, tagged, tagged_class_field, tagged_dummy, tagged_governor, tagged_parameter, tagged_parameters, tagging}
use Rattle.asn_meaning.specs.Written.{Written, NullWritten, as_written}
use Rattle.asn_meaning.proofs.Alike.{ArgumentsAlike, BoundsAlike, bound_alike, once_both, if_alike, if_mapped, is_some_alike, mapped_alike}
use Rattle.asn_meaning.proofs.AlikeObjects.{ClassesAlike, FieldsAlike, ObjectsAlike, TypesAlike, class_alike, field_of_kept, given_alike, is_class_alike, object_alike, path_kept, reference_type_kept, type_alike}
use Rattle.asn_meaning.proofs.TagLayers.{constraint_out, each_constraint, field_kept, field_out, kind_kept, option_layer, option_out, parameter_out, reference_kept, type_by_level, type_kind_kept, value_written_kept, written_kept}

-- ---- targets

abbrev pub TargetsAlike : Target → Target → Type 0
TargetsAlike x y = (p : Place) × PlacesAlike x.place p × (f : TagChange) × (y ≡ record { place = p; constraints = each_constraint f x.constraints })

pub bare_alike : (s q : Scope) → ScopesAlike s q → (f : TagChange) (ty : ASN1Type) → TargetsAlike (bare s ty) (bare q (tagged f ty))
bare_alike s q k f ty = (record { scope = q; ty = tagged f ty }, (f, q, k, refl), f, refl)

bare_by : (s q : Scope) → ScopesAlike s q → (f : TagChange) (ty ty' : ASN1Type) → ty' ≡ tagged f ty → TargetsAlike (bare s ty) (bare q ty')
bare_by s q k f ty ty' e = subst (λ z. TargetsAlike (bare s ty) (bare q z)) (sym e) (bare_alike s q k f ty)

-- a type that has no tags
pub untagged_place : (s q : Scope) → ScopesAlike s q → (ty : ASN1Type) → tagged (λ t. t) ty ≡ ty → PlacesAlike (record { scope = s; ty = ty }) (record { scope = q; ty = ty })
untagged_place s q k ty e = ((λ t. t), q, k, ap (λ z. record { scope = q; ty = z }) (sym e))

null_kept : (f : TagChange) → tagged f type_of_kind.Null ≡ type_of_kind.Null
null_kept f = type_by_level f type_of_kind.Null type_of_kind.Null (type_of_kind.outs-Null ∙ ap (type_parts (tagging f)) (sym type_of_kind.outs-Null))

pub plain_place : (s q : Scope) → ScopesAlike s q → (name : List ℕ) → PlacesAlike (record { scope = s; ty = plain_name name }) (record { scope = q; ty = plain_name name })
plain_place s q k name = untagged_place s q k (plain_name name) (reference_type_kept (λ t. t) (record { parent = None; identifier = name; constraints = [] }))

-- ---- argument lists

module _ (f : TagChange) where
  abbrev each_list : List (List Parameter) → List (List Parameter)
  each_list lists = map (map (tagged_parameter f)) lists

  list_at_kept : (l : ConstraintLayer) (lists : List (List Parameter)) → list_at (constraint_parts (tagging f) l) (each_list lists) ≡ each_list (list_at l lists)
  list_at_kept (Constraint-F.Parameter arguments) lists = refl
  list_at_kept _ lists = refl

  lists_kept : (cs : List Constraint) → lists_in (each_constraint f cs) ≡ each_list (lists_in cs)
  lists_kept [] = refl
  lists_kept (c ∷ cs) =
      ap (λ l. list_at l (lists_in (each_constraint f cs))) (constraint_out f c)
      ∙ ap (list_at (constraint_parts (tagging f) (out-Constraint c))) (lists_kept cs)
      ∙ list_at_kept (out-Constraint c) (lists_in cs)

  entered_alike : (s q : Scope) → ScopesAlike s q → (g : TagChange) (dummies : List ParameterizationArgument) (arguments : List Parameter) →
      BothAlike ScopesAlike (entered s dummies arguments) (entered q (map (tagged_dummy g) dummies) (map (tagged_parameter f) arguments))
  entered_alike s q k g [] arguments = (Empty, refl, refl)
  entered_alike s q k g (d ∷ dummies) [] = refl
  entered_alike s q k g (d ∷ dummies) (a ∷ arguments) =
      once_both ScopesAlike ScopesAlike _ _ _ _ (entered_alike s q k g dummies arguments)
      (λ x y r. (Binds d.dummy_reference (tagged_governor g d.param_governor) (tagged_parameter f a) q y, (f, g, q, y, k, r, refl), refl))

  instance_alike : (s q : Scope) → ScopesAlike s q → (d e : ToplevelTypeDefinition) → TypesAlike d e → (lists : List (List Parameter)) →
      BothAlike TargetsAlike (instance s d d.parameterization lists) (instance q e e.parameterization (each_list lists))
  instance_alike s q k d e (g, is, template) lists =
      subst (λ o. BothAlike TargetsAlike (instance s d d.parameterization lists) (instance q e o (each_list lists))) (sym template) (go d.parameterization lists)
    where
      go : (o : Option Parameterization) (lists : List (List Parameter)) → BothAlike TargetsAlike (instance s d o lists) (instance q e (option_map (tagged_parameters g) o) (each_list lists))
      go None [] = (bare Empty e.ty, bare_by Empty Empty refl g d.ty e.ty is, refl)
      go None (list ∷ lists) = refl
      go (Some t) [] = refl
      go (Some t) (list ∷ []) = once_both ScopesAlike TargetsAlike _ _ _ _ (entered_alike s q k g t.parameters list) (λ x y r. (bare y e.ty, bare_by x y r g d.ty e.ty is, refl))
      go (Some t) (list ∷ more ∷ lists) = refl

-- ---- dummies

null_alike : (f : TagChange) (w : Written) → BothAlike TargetsAlike (null_type w) (null_type (written_kept f w))
null_alike f NullWritten = (bare Empty type_of_kind.Null, bare_by Empty Empty refl f type_of_kind.Null type_of_kind.Null (sym (null_kept f)), refl)
null_alike f _ = refl

type_argument_alike : (s q : Scope) → ScopesAlike s q → (f : TagChange) (l : ParameterLayer) → BothAlike TargetsAlike (type_argument s l) (type_argument q (parameter_parts (tagging f) l))
type_argument_alike s q k f (Parameter-F.ValueParameter v) = subst (λ w. BothAlike TargetsAlike (null_type (as_written v)) (null_type w)) (sym (value_written_kept f v)) (null_alike f (as_written v))
type_argument_alike s q k f (Parameter-F.TypeParameter ty) = (bare q (tagged f ty), bare_alike s q k f ty, refl)
type_argument_alike s q k f (Parameter-F.InformationObjectParameter fields) = refl
type_argument_alike s q k f (Parameter-F.ObjectSetParameter set) = refl

argument_target : (x y : Argument) → ArgumentsAlike x y → BothAlike TargetsAlike (type_argument x.scope (out-Parameter x.tree)) (type_argument y.scope (out-Parameter y.tree))
argument_target x y (f, s, k, e) =
    subst (λ z. BothAlike TargetsAlike (type_argument x.scope (out-Parameter x.tree)) (type_argument z.scope (out-Parameter z.tree))) (sym e)
    (subst (λ l. BothAlike TargetsAlike (type_argument x.scope (out-Parameter x.tree)) (type_argument s l)) (sym (parameter_out f x.tree)) (type_argument_alike x.scope s k f (out-Parameter x.tree)))

dummy_alike : (b c : Bound) → BoundsAlike b c → (f : TagChange) (lists : List (List Parameter)) → BothAlike TargetsAlike (dummy_target b b.governor lists) (dummy_target c c.governor (each_list f lists))
dummy_alike b c (g, argument, a, e) f lists =
    subst (λ z. BothAlike TargetsAlike (dummy_target b b.governor lists) (dummy_target z z.governor (each_list f lists))) (sym e) (go b.governor lists)
  where
    go : (gov : ParameterGovernor) (lists : List (List Parameter)) → BothAlike TargetsAlike (dummy_target b gov lists) (dummy_target (record { governor = tagged_governor g b.governor; argument = argument }) (tagged_governor g gov) (each_list f lists))
    go governor.None [] = once_both ArgumentsAlike TargetsAlike _ _ _ _ a argument_target
    go governor.None (list ∷ lists) = refl
    go (governor.TypeOrClass ty) lists = refl
    go (governor.Class name) lists = refl

-- ---- options

pub option_named_kept : (f : TagChange) (options : List ChoiceOption) (name : List ℕ) → option_named (map (rewritten_option (tagging f)) options) name ≡ option_map (option_layer f) (option_named options name)
option_named_kept f [] name = refl
option_named_kept f (o ∷ options) name =
    ap (λ z. here z (option_named (map (rewritten_option (tagging f)) options) name)) (option_out f o)
    ∙ ap (here (option_layer f (out-ChoiceOption o))) (option_named_kept f options name)
    ∙ if_mapped (option_layer f) (bytes_eq (out-ChoiceOption o).name name) (Some (out-ChoiceOption o)) (option_named options name)
  where
    here : OptionLayer → Option OptionLayer → Option OptionLayer
    here z r = if bytes_eq z.name name then Some z else r

-- ---- fields

abbrev pub FieldTypesAlike : FieldType → FieldType → Type 0
FieldTypesAlike Open y = y ≡ Open
FieldTypesAlike (Fixed ty) y = (f : TagChange) × (y ≡ Fixed (tagged f ty))

type_of_field_at : (f : TagChange) (l : FieldLayer) → BothAlike TargetsAlike (type_of_field l) (type_of_field (field_parts (tagging f) l))
type_of_field_at f (InformationObjectField-F.TypeField x) = (bare Empty (tagged f x.ty), bare_alike Empty Empty refl f x.ty, refl)
type_of_field_at f (InformationObjectField-F.FixedValueField x) = refl
type_of_field_at f (InformationObjectField-F.ObjectSetField x) = refl

type_of_field_alike : (x y : InformationObjectField) → FieldsAlike x y → BothAlike TargetsAlike (type_of_field (out-InformationObjectField x)) (type_of_field (out-InformationObjectField y))
type_of_field_alike x y (f, e) =
    subst (λ z. BothAlike TargetsAlike (type_of_field (out-InformationObjectField x)) (type_of_field z)) (sym (ap out-InformationObjectField e ∙ field_out f x)) (type_of_field_at f (out-InformationObjectField x))

module _ (defs others : Definitions) (seen : DifferInTags defs others) where
  name_target_alike : (s q : Scope) → ScopesAlike s q → (name : List ℕ) (f : TagChange) (lists : List (List Parameter)) (o u : Option Bound) → BothAlike BoundsAlike o u →
      BothAlike TargetsAlike (name_target defs s name lists o) (name_target others q name (each_list f lists) u)
  name_target_alike s q k name f lists None u e =
      subst (λ z. BothAlike TargetsAlike (name_target defs s name lists None) (name_target others q name (each_list f lists) z)) (sym e)
      (once_both TypesAlike TargetsAlike _ _ _ _ (type_alike defs others seen name) (λ d x r. instance_alike f s q k d x r lists))
  name_target_alike s q k name f lists (Some b) u (c, r, e) =
      subst (λ z. BothAlike TargetsAlike (name_target defs s name lists (Some b)) (name_target others q name (each_list f lists) z)) (sym e) (dummy_alike b c r f lists)

  pub object_field_alike : (s q : Scope) → ScopesAlike s q → (name field : List ℕ) → BothAlike FieldsAlike (object_field defs s name field) (object_field others q name field)
  object_field_alike s q k name field =
      subst (λ b. BothAlike FieldsAlike (object_field defs s name field) (if b then None else once None (object_named others name) (λ o. given others o (marked field)))) (sym (is_some_alike BoundsAlike _ _ (bound_alike s q k name)))
      (if_alike FieldsAlike (is_some (bound_to s name)) None None _ _ refl
      (once_both ObjectsAlike FieldsAlike _ _ _ _ (object_alike defs others seen name) (λ o p r. given_alike defs others seen o p r (marked field))))

  field_target_alike : (s q : Scope) → ScopesAlike s q → (name field : List ℕ) → BothAlike TargetsAlike (field_target defs s name field) (field_target others q name field)
  field_target_alike s q k name field = once_both FieldsAlike TargetsAlike _ _ _ _ (object_field_alike s q k name field) type_of_field_alike

  pub reference_alike : (s q : Scope) → ScopesAlike s q → (f : TagChange) (x : ReferenceLayer) → BothAlike TargetsAlike (reference_target defs s x) (reference_target others q (reference_kept f x))
  reference_alike s q k f x = go x.parent
    where
      go : (parent : Option (List ℕ)) → BothAlike TargetsAlike (reference_of defs s x parent) (reference_of others q (reference_kept f x) parent)
      go None =
          subst (λ lists. BothAlike TargetsAlike (reference_of defs s x None) (name_target others q x.identifier lists (bound_to q x.identifier))) (sym (lists_kept f x.constraints))
          (name_target_alike s q k x.identifier f (lists_in x.constraints) _ _ (bound_alike s q k x.identifier))
      go (Some parent) = field_target_alike s q k parent x.identifier

  fixed_alike : (f : TagChange) (ty : ASN1Type) → BothAlike FieldTypesAlike (fixed_at defs ty (kind_of_type ty)) (fixed_at others (tagged f ty) (kind_of_type (tagged f ty)))
  fixed_alike f ty = subst (λ k. BothAlike FieldTypesAlike (fixed_at defs ty (kind_of_type ty)) (fixed_at others (tagged f ty) k)) (sym (type_kind_kept f ty)) (go (kind_of_type ty))
    where
      kept : Kind → Kind
      kept k = kind_kept f k

      go : (k : Kind) → BothAlike FieldTypesAlike (fixed_at defs ty k) (fixed_at others (tagged f ty) (kept k))
      go (ReferenceKind x) =
          subst (λ b. BothAlike FieldTypesAlike (fixed_at defs ty (ReferenceKind x)) (if is_none x.parent && b then None else Some (Fixed (tagged f ty)))) (sym (is_class_alike defs others seen x.identifier))
          (if_alike FieldTypesAlike (is_none x.parent && is_class defs x.identifier) None None _ _ refl (Fixed (tagged f ty), (f, refl), refl))
      go _ = (Fixed (tagged f ty), (f, refl), refl)

  fixed_or_open_alike : (f : TagChange) (o : Option ASN1Type) → BothAlike FieldTypesAlike (fixed_or_open defs o) (fixed_or_open others (option_map (tagged f) o))
  fixed_or_open_alike f None = (Open, refl, refl)
  fixed_or_open_alike f (Some ty) = fixed_alike f ty

  abbrev ByChange : TagChange → InformationObjectClassField → InformationObjectClassField → Type 0
  ByChange f x y = y ≡ tagged_class_field f x

  field_type_alike : (f : TagChange) (o u : Option InformationObjectClassField) → u ≡ option_map (tagged_class_field f) o →
      BothAlike FieldTypesAlike (once None o (λ x. fixed_or_open defs x.ty)) (once None u (λ x. fixed_or_open others x.ty))
  field_type_alike f o u e =
      once_both (ByChange f) FieldTypesAlike o u _ _ (mapped_alike (ByChange f) (tagged_class_field f) o u e (λ x. refl))
      (λ x y r. subst (λ z. BothAlike FieldTypesAlike (fixed_or_open defs x.ty) (fixed_or_open others z.ty)) (sym r) (fixed_or_open_alike f x.ty))

  pub class_field_alike : (s q : Scope) → ScopesAlike s q → (f : TagChange) (x : ClassFieldLayer) → BothAlike FieldTypesAlike (class_field_type defs s x) (class_field_type others q (field_kept f x))
  class_field_alike s q k f x =
      subst (λ b. BothAlike FieldTypesAlike (class_field_type defs s x) (if b then None else once None (class_named others x.class) (λ c. once None (field_at_path c x.field_path) (λ y. fixed_or_open others y.ty)))) (sym (is_some_alike BoundsAlike _ _ (bound_alike s q k x.class)))
      (if_alike FieldTypesAlike (is_some (bound_to s x.class)) None None _ _ refl
      (once_both ClassesAlike FieldTypesAlike _ _ _ _ (class_alike defs others seen x.class)
      (λ c d r. field_type_alike r.0 (field_at_path c x.field_path) (field_at_path d x.field_path) (ap (λ z. field_at_path z x.field_path) r.1 ∙ path_kept r.0 c x.field_path))))

  pub object_type_alike : (o p : InformationObject) → ObjectsAlike o p → (field : List ℕ) → BothAlike FieldTypesAlike (object_field_type defs o field) (object_field_type others p field)
  object_type_alike o p (f, e) field =
      subst (λ z. BothAlike FieldTypesAlike (object_field_type defs o field) (object_field_type others z field)) (sym e)
      (once_both ClassesAlike FieldTypesAlike _ _ _ _ (class_alike defs others seen o.class_name)
      (λ c d r. field_type_alike r.0 (field_of c (marked field)) (field_of d (marked field)) (ap (λ z. field_of z (marked field)) r.1 ∙ field_of_kept r.0 c (marked field))))
