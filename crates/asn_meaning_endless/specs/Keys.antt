-- What a type goes by, and what stands behind it whatever the arguments are.
use Rattle.std.specs.Prelude.{ℕ, List, [], ◌∷◌, Option, Some, None, is_some, if◌then◌else◌}
use Rattle.asn_tree_leaves.specs.declared.objects.ObjectFieldIdentifier.{ObjectFieldIdentifier}
use Rattle.asn_tree.specs.declared.definitions.Parameterization.{Parameterization}
use Rattle.asn_tree.specs.declared.definitions.ParameterizationArgument.{ParameterizationArgument}
use Rattle.asn_meaning.specs.Accepts.{place}
use Rattle.asn_meaning.specs.Answers.{once}
use Rattle.asn_meaning.specs.Definitions.{Definitions, class_named, type_named}
use Rattle.asn_meaning.specs.Kinds.{Kind, FieldKind, ReferenceKind, SelectionKind, kind_of}
use Rattle.asn_meaning.specs.Layers.{ReferenceLayer}
use Rattle.asn_meaning.specs.Names.{FieldType, Open, Fixed, field_target, fixed_or_open, plain_name}
use Rattle.asn_meaning.specs.Objects.{field_at_path}
use Rattle.asn_meaning.specs.Scopes.{Scope, Empty, LeavesOpen, bound_to, Place}

-- What a type goes by: the name of a type, a field of an object, or a field of a class.
pub data Key : Type 0 where
  ByName : List ℕ → Key
  ByObject : List ℕ → List ℕ → Key
  ByField : List ℕ → List ObjectFieldIdentifier → Key

-- what is told of a name that is no dummy
abbrev pub unless_dummy : Scope → List ℕ → Key → Option Key
unless_dummy scope name k = if is_some (bound_to scope name) then None else Some k

abbrev pub reference_key : Scope → ReferenceLayer → Option (List ℕ) → Option Key
reference_key scope x None = unless_dummy scope x.identifier (ByName x.identifier)
reference_key scope x (Some o) = unless_dummy scope o (ByObject o x.identifier)

-- what a type of this kind goes by; a dummy is none of these
abbrev pub key_at : Scope → Kind → Option Key
key_at scope (ReferenceKind x) = reference_key scope x x.parent
key_at scope (FieldKind x) = unless_dummy scope x.class (ByField x.class x.field_path)
key_at scope _ = None

abbrev pub key : Place → Option Key
key p = key_at p.scope (kind_of p)

-- the CHOICE of a selection
abbrev pub choice_in : Scope → Kind → Option Place
choice_in scope (SelectionKind x) = Some (place scope (plain_name x.choice_name))
choice_in scope _ = None

-- the scope of a template's dummies without arguments
abbrev pub left_open : List ParameterizationArgument → Scope
left_open [] = Empty
left_open (dummy ∷ dummies) = LeavesOpen dummy.dummy_reference dummy.param_governor (left_open dummies)

abbrev pub open_scope : Option Parameterization → Scope
open_scope None = Empty
open_scope (Some t) = left_open t.parameters

abbrev pub fixed_place : FieldType → Option Place
fixed_place Open = None
fixed_place (Fixed ty) = Some (place Empty ty)

-- the type of a class's field, where the field fixes one
abbrev pub field_behind : Definitions → List ℕ → List ObjectFieldIdentifier → Option Place
field_behind defs class path =
    once None (class_named defs class) (λ c. once None (field_at_path c path) (λ f. once None (fixed_or_open defs f.ty) fixed_place))

-- The type behind it, where nothing is known of a template's arguments.
abbrev pub behind : Definitions → Key → Option Place
behind defs (ByName name) = once None (type_named defs name) (λ d. Some (place (open_scope d.parameterization) d.ty))
behind defs (ByObject o field) = once None (field_target defs Empty o field) (λ x. Some x.place)
behind defs (ByField class path) = field_behind defs class path
