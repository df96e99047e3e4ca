-- What stands in a type: its parts, its constraints, and under its arguments the template that it instantiates.
use Rattle.std.specs.Prelude.{List, [], ◌∷◌, ◌++◌, map, Bool, true, false, Option, Some, None, is_some, ◌||◌, if◌then◌else◌}
use Rattle.std.specs.List.{list_any}
use Rattle.std.specs.Str.{bytes_eq}
use Rattle.asn_tree.specs.declared.constraints.Constraint.{Constraint}
use Rattle.asn_tree.specs.declared.constraints.Parameter.{Parameter, Parameter-F, out-Parameter}
use Rattle.asn_tree.specs.declared.definitions.ParameterGovernor.{ParameterGovernor}
use Rattle.asn_tree.specs.declared.definitions.ParameterGovernor.TheVariants as governor
use Rattle.asn_tree.specs.declared.definitions.ParameterizationArgument.{ParameterizationArgument}
use Rattle.asn_tree.specs.declared.definitions.ToplevelTypeDefinition.{ToplevelTypeDefinition}
use Rattle.asn_tree.specs.declared.types.ASN1Type.{ASN1Type}
use Rattle.asn_tree.specs.declared.types.ChoiceOption.{out-ChoiceOption}
use Rattle.asn_tree.specs.declared.types.SequenceOrSetMember.{out-SequenceOrSetMember}
use Rattle.asn_tree_notation.specs.Types.{constraints_of}
use Rattle.asn_meaning.specs.Accepts.{place}
use Rattle.asn_meaning.specs.Answers.{once}
use Rattle.asn_meaning.specs.Definitions.{Definitions, type_named}
use Rattle.asn_meaning.specs.Denotes.{own_name}
use Rattle.asn_meaning.specs.Kinds.{Kind, ChoiceKind, ListKind, ReferenceKind, StructKind, kind_of_type}
use Rattle.asn_meaning.specs.Layers.{MemberLayer, OptionLayer, ParameterLayer, ReferenceLayer, StructLayer}
use Rattle.asn_meaning.specs.Names.{lists_in}
use Rattle.asn_meaning.specs.Placed.{listed}
use Rattle.asn_meaning.specs.Scopes.{Scope, Argument, Place}
use Rattle.asn_meaning.specs.Written.{as_written}
use Rattle.asn_needs.specs.Dummies.{argument_name, class_in_scope, filled, handed_on, is_class_name, is_dummy, is_information, name_of_value, set_argument}
use Rattle.asn_needs.specs.Sites.{Seen, Site, beside, each_of, TypePlace, AtHead, OfField, AtHeadOfField, InPlace, AsSuch, AType, ComponentsOf, AValue, AConstraint, LooseList, AnArgument, NoArgument, LooseArgument, ADummy, AnObjectSet}

-- constraints on a type, or on a part that the constrained type lacks
abbrev pub constraint_sites : Site → Option Place → List Constraint → List Site
constraint_sites s p cs = map (λ c. beside s (AConstraint c p)) cs

-- ---- argument lists

abbrev pub loose_list : Site → List Parameter → List Site
loose_list s arguments = beside s LooseList ∷ map (λ a. beside s (LooseArgument a)) arguments

-- lists that stand on no template, or are a second one
abbrev pub loose_lists : Site → List (List Parameter) → List Site
loose_lists s lists = each_of (loose_list s) lists

-- a template with the arguments of its list
pub record Instance : Type 0 where
  pub template : ToplevelTypeDefinition
  pub dummies : List ParameterizationArgument
  pub arguments : List Parameter
  pub others : List (List Parameter)

abbrev pub instance_by : ToplevelTypeDefinition → List (List Parameter) → Option Instance
instance_by d [] = None
instance_by d (arguments ∷ others) =
    once None d.parameterization (λ t. Some (record { template = d; dummies = t.parameters; arguments = arguments; others = others }))

abbrev pub instance_named : Definitions → Scope → ReferenceLayer → Option Instance
instance_named defs scope x =
    if is_some x.parent || is_dummy scope x.identifier then None else
    once None (type_named defs x.identifier) (λ d. instance_by d (lists_in x.constraints))

-- the template that a type instantiates (X.683 9.1)
abbrev pub instance_at : Definitions → Scope → Kind → Option Instance
instance_at defs scope (ReferenceKind x) = instance_named defs scope x
instance_at defs scope _ = None

abbrev pub inner_scope : Site → Instance → Scope
inner_scope s i = filled s.scope i.dummies i.arguments

abbrev pub argument_sites : Site → Scope → List ParameterizationArgument → List Parameter → List Site
argument_sites s inner [] arguments = map (λ a. beside s (LooseArgument a)) arguments
argument_sites s inner (dummy ∷ dummies) [] = beside s NoArgument ∷ argument_sites s inner dummies []
argument_sites s inner (dummy ∷ dummies) (a ∷ arguments) = beside s (AnArgument a dummy inner) ∷ argument_sites s inner dummies arguments

abbrev pub at_head : TypePlace → TypePlace
at_head AtHead = AtHead
at_head AtHeadOfField = AtHead
at_head OfField = InPlace
at_head InPlace = InPlace

abbrev pub inner_site : Site → Instance → Site
inner_site s i = record s { scope = inner_scope s i; nest = i.template.name ∷ s.nest; way = [] }

abbrev pub template_sites : Site → TypePlace → Instance → List Site
template_sites inner at i = beside inner (AType (at_head at) i.template.ty []) ∷ map (λ dummy. beside inner (ADummy dummy)) i.dummies

-- Under its arguments, a template that it instantiates, and so on. A content or table instantiates nothing; a template is not
-- entered again within itself, since then it needs itself.
abbrev pub entered_sites : Site → TypePlace → Instance → List Site
entered_sites s at i = if s.is_opaque || list_any (bytes_eq i.template.name) s.nest then [] else template_sites (inner_site s i) at i

abbrev pub instance_sites : Site → TypePlace → List (List Parameter) → Option Instance → List Site
instance_sites s at lists None = loose_lists s lists
instance_sites s at lists (Some i) =
    argument_sites s (inner_scope s i) i.dummies i.arguments ++ entered_sites s at i ++ loose_lists s i.others

-- ---- components

abbrev pub default_site : Site → MemberLayer → List Site
default_site s m = elim m.default_value [ None ↦ [] | Some v ↦ beside s (AValue AsSuch v (Some (place s.scope m.ty))) ∷ [] ]

abbrev pub member_sites : Site → MemberLayer → List Site
member_sites s m = beside s (AType InPlace m.ty m.constraints) ∷ default_site s m

abbrev pub option_sites : Site → OptionLayer → List Site
option_sites s o = beside s (AType InPlace o.ty o.constraints) ∷ []

abbrev pub struct_sites : Site → StructLayer → List Site
struct_sites s x = each_of (λ m. member_sites s (out-SequenceOrSetMember m)) x.members ++ map (λ name. beside s (ComponentsOf name)) x.components_of

abbrev pub component_sites : Site → Kind → List Site
component_sites s (StructKind x) = struct_sites s x
component_sites s (ChoiceKind options) = each_of (λ o. option_sites s (out-ChoiceOption o)) options
component_sites s (ListKind ty) = beside s (AType InPlace ty []) ∷ []
component_sites s _ = []

-- ---- types

abbrev pub own_constraints : ASN1Type → List Constraint
own_constraints ty = listed (constraints_of ty)

abbrev pub type_sites_from : Seen → Site → TypePlace → ASN1Type → List Constraint → List Site
type_sites_from S s at ty behind =
    component_sites s (kind_of_type ty)
    ++ instance_sites s at (lists_in (own_constraints ty)) (instance_at S.defs s.scope (kind_of_type ty))
    ++ loose_lists s (lists_in behind)
    ++ constraint_sites s (Some (place s.scope ty)) (own_constraints ty ++ behind)

-- Its components, its arguments and the template under them, its constraints and those of its place.
abbrev pub type_sites : Seen → Site → TypePlace → ASN1Type → List Constraint → List Site
type_sites S s at ty behind = type_sites_from S (record s { way = [] }) at ty behind

-- ---- arguments

abbrev pub is_own_at : Seen → Place → ParameterLayer → Bool
is_own_at S p (Parameter-F.ValueParameter v) = once false (name_of_value (as_written v)) (λ name. once false (S.known.head p) (λ head. is_some (own_name head name)))
is_own_at S p (Parameter-F.TypeParameter ty) = false
is_own_at S p (Parameter-F.InformationObjectParameter fields) = false
is_own_at S p (Parameter-F.ObjectSetParameter set) = false

-- an item of the governor comes before an object of that name
abbrev pub is_own : Seen → Scope → ParameterGovernor → Argument → Bool
is_own S inner governor.None a = false
is_own S inner (governor.TypeOrClass g) a = is_own_at S (place inner g) (out-Parameter a.tree)
is_own S inner (governor.Class name) a = false

-- an argument that is judged by its kind alone: none, or an object or a class
abbrev pub is_aside : Seen → Scope → ParameterGovernor → Option Argument → Bool
is_aside S inner g None = true
is_aside S inner g (Some a) = if is_own S inner g a then false else is_information S.defs a

-- whether the argument is written here, and is no dummy that is handed on
abbrev pub is_written : Scope → Parameter → Bool
is_written scope p = once true (argument_name (out-Parameter p)) (λ name. if is_dummy scope name then false else true)

abbrev pub type_argument_sites : Site → ParameterLayer → List Site
type_argument_sites s (Parameter-F.ValueParameter v) = []
type_argument_sites s (Parameter-F.TypeParameter ty) = beside s (AType InPlace ty []) ∷ []
type_argument_sites s (Parameter-F.InformationObjectParameter fields) = []
type_argument_sites s (Parameter-F.ObjectSetParameter set) = []

abbrev pub value_argument_sites : Site → Place → ParameterLayer → List Site
value_argument_sites s p (Parameter-F.ValueParameter v) = beside s (AValue AsSuch v (Some p)) ∷ []
value_argument_sites s p (Parameter-F.TypeParameter ty) = []
value_argument_sites s p (Parameter-F.InformationObjectParameter fields) = []
value_argument_sites s p (Parameter-F.ObjectSetParameter set) = []

-- A type where no governor stands, a value under its governor, an object set under its class. The governor is read in the
-- template's scope, where it may be a dummy itself. An argument of another kind is wrong where it is written (X.683 8.3).
abbrev pub governed_sites : Seen → Site → Parameter → Scope → ParameterGovernor → List Site
governed_sites S s p inner governor.None = if is_written s.scope p then type_argument_sites s (out-Parameter p) else []
governed_sites S s p inner (governor.TypeOrClass g) = if is_class_name S.defs (place inner g) then [] else value_argument_sites s (place inner g) (out-Parameter p)
governed_sites S s p inner (governor.Class c) =
    if is_written s.scope p then once [] (set_argument (out-Parameter p)) (λ set. beside s (AnObjectSet (class_in_scope S.defs inner c) set) ∷ []) else []

-- an argument, read where it is written
abbrev pub here : Site → Parameter → Argument
here s p = record { tree = p; scope = s.scope }

abbrev pub argument_parts : Seen → Site → Parameter → ParameterizationArgument → Scope → List Site
argument_parts S s p dummy inner =
    if is_aside S inner dummy.param_governor (handed_on S.steps (here s p)) then []
    else governed_sites S s p inner dummy.param_governor

-- the type that governs a dummy
abbrev pub governor_sites : Site → ParameterGovernor → List Site
governor_sites s governor.None = []
governor_sites s (governor.TypeOrClass g) = beside s (AType OfField g []) ∷ []
governor_sites s (governor.Class name) = []
