-- Where a name leads: one function for each form of name.
use Rattle.std.specs.Prelude.{ℕ, List, [], ◌∷◌, ◌++◌, ◌&&◌, is_none, is_some, Option, Some, None, codes, if◌then◌else◌}
use Rattle.std.specs.Str.{bytes_eq}
use Rattle.asn_tree.specs.declared.constraints.Constraint.{Constraint, Constraint-F, out-Constraint}
use Rattle.asn_tree.specs.declared.constraints.Parameter.{Parameter, Parameter-F, out-Parameter}
use Rattle.asn_tree.specs.declared.definitions.ParameterGovernor.{ParameterGovernor}
use Rattle.asn_tree.specs.declared.definitions.ParameterGovernor.TheVariants as governor
use Rattle.asn_tree.specs.declared.definitions.Parameterization.{Parameterization}
use Rattle.asn_tree.specs.declared.definitions.ToplevelTypeDefinition.{ToplevelTypeDefinition}
use Rattle.asn_tree.specs.declared.objects.InformationObject.{InformationObject}
use Rattle.asn_tree.specs.declared.objects.InformationObjectField.{InformationObjectField, InformationObjectField-F, out-InformationObjectField}
use Rattle.asn_tree.specs.declared.types.ASN1Type.{ASN1Type}
use Rattle.asn_tree.specs.declared.types.ASN1Type.TheVariants as type_of_kind
use Rattle.asn_tree.specs.declared.types.ChoiceOption.{ChoiceOption, out-ChoiceOption}
use Rattle.asn_tree_kinds.specs.declared.types.ChoiceSelectionType.{ChoiceSelectionType}
use Rattle.asn_meaning.specs.Answers.{once}
use Rattle.asn_meaning.specs.Definitions.{Definitions, type_named, is_class, class_named, object_named}
use Rattle.asn_meaning.specs.Kinds.{Kind, ChoiceKind, FieldKind, ReferenceKind, SelectionKind, kind_of, kind_of_type}
use Rattle.asn_meaning.specs.Layers.{ClassFieldLayer, ConstraintLayer, FieldLayer, OptionLayer, ParameterLayer, ReferenceLayer}
use Rattle.asn_meaning.specs.Meaning.{Meaning}
use Rattle.asn_meaning.specs.Objects.{field_of, field_at_path, given}
use Rattle.asn_meaning.specs.Scopes.{Scope, Empty, Bound, bound_to, entered, Place, Target, bare}
use Rattle.asn_meaning.specs.Written.{Written, NullWritten, as_written}

-- ---- argument lists

abbrev pub list_at : ConstraintLayer → List (List Parameter) → List (List Parameter)
list_at (Constraint-F.SubtypeConstraint set) others = others
list_at (Constraint-F.TableConstraint table) others = others
list_at (Constraint-F.Parameter arguments) others = arguments ∷ others
list_at (Constraint-F.ContentConstraint content) others = others

-- the argument lists that stand among the constraints behind a name (X.683 9.1)
abbrev pub lists_in : List Constraint → List (List Parameter)
lists_in [] = []
lists_in (c ∷ cs) = list_at (out-Constraint c) (lists_in cs)

-- a template takes one list, any other definition none
abbrev pub instance : Scope → ToplevelTypeDefinition → Option Parameterization → List (List Parameter) → Option Target
instance scope d None [] = Some (bare Empty d.ty)
instance scope d None (arguments ∷ others) = None
instance scope d (Some template) [] = None
instance scope d (Some template) (arguments ∷ []) = once None (entered scope template.parameters arguments) (λ inner. Some (bare inner d.ty))
instance scope d (Some template) (arguments ∷ more ∷ others) = None

-- ---- dummies

abbrev pub null_type : Written → Option Target
null_type NullWritten = Some (bare Empty type_of_kind.Null)
null_type _ = None

-- a type argument; the value NULL stands for the type NULL
abbrev pub type_argument : Scope → ParameterLayer → Option Target
type_argument scope (Parameter-F.ValueParameter v) = null_type (as_written v)
type_argument scope (Parameter-F.TypeParameter ty) = Some (bare scope ty)
type_argument scope (Parameter-F.InformationObjectParameter fields) = None
type_argument scope (Parameter-F.ObjectSetParameter set) = None

-- A dummy without governor stands for its type argument, read in the argument's scope (X.683 8.3). No list stands on it.
abbrev pub dummy_target : Bound → ParameterGovernor → List (List Parameter) → Option Target
dummy_target b governor.None [] = once None b.argument (λ a. type_argument a.scope (out-Parameter a.tree))
dummy_target b governor.None (list ∷ lists) = None
dummy_target b (governor.TypeOrClass g) lists = None
dummy_target b (governor.Class name) lists = None

-- a plain name: a dummy, else a type definition (X.680 14.1)
abbrev pub name_target : Definitions → Scope → List ℕ → List (List Parameter) → Option Bound → Option Target
name_target defs scope name lists (Some b) = dummy_target b b.governor lists
name_target defs scope name lists None = once None (type_named defs name) (λ d. instance scope d d.parameterization lists)

-- ---- fields of objects

abbrev pub type_of_field : FieldLayer → Option Target
type_of_field (InformationObjectField-F.TypeField field) = Some (bare Empty field.ty)
type_of_field (InformationObjectField-F.FixedValueField field) = None
type_of_field (InformationObjectField-F.ObjectSetField field) = None

-- the field's name with its `&`
abbrev pub marked : List ℕ → List ℕ
marked name = codes "&" ++ name

-- the field that an object gives; a dummy is no object
abbrev pub object_field : Definitions → Scope → List ℕ → List ℕ → Option InformationObjectField
object_field defs scope name field =
    if is_some (bound_to scope name) then None else once None (object_named defs name) (λ o. given defs o (marked field))

-- `o.&T`: the type that the object gives (X.681 15.1)
abbrev pub field_target : Definitions → Scope → List ℕ → List ℕ → Option Target
field_target defs scope name field = once None (object_field defs scope name field) (λ f. type_of_field (out-InformationObjectField f))

abbrev pub reference_of : Definitions → Scope → ReferenceLayer → Option (List ℕ) → Option Target
reference_of defs scope x None = name_target defs scope x.identifier (lists_in x.constraints) (bound_to scope x.identifier)
reference_of defs scope x (Some parent) = field_target defs scope parent x.identifier

-- a type reference
abbrev pub reference_target : Definitions → Scope → ReferenceLayer → Option Target
reference_target defs scope x = reference_of defs scope x x.parent

-- ---- selections

-- a type reference with nothing behind it
abbrev pub plain_name : List ℕ → ASN1Type
plain_name name = type_of_kind.ElsewhereDeclaredType (record { parent = None; identifier = name; constraints = [] })

-- the head of a type that a name stands for
abbrev pub head_named : Meaning → Scope → List ℕ → Option Place
head_named M scope name = M.head (record { scope = scope; ty = plain_name name })

-- the option of the name (X.680 29.1)
abbrev pub option_named : List ChoiceOption → List ℕ → Option OptionLayer
option_named [] name = None
option_named (o ∷ os) name = if bytes_eq (out-ChoiceOption o).name name then Some (out-ChoiceOption o) else option_named os name

abbrev pub options_in : Kind → List ChoiceOption
options_in (ChoiceKind options) = options
options_in _ = []

-- the options of a CHOICE
abbrev pub options_of : Place → List ChoiceOption
options_of head = options_in (kind_of head)

-- `a < C`: the option's type with the option's constraints; the CHOICE's own do not come along (X.680 30.2)
abbrev pub selection_target : Meaning → Scope → ChoiceSelectionType → Option Target
selection_target M scope x =
    once None (head_named M scope x.choice_name) (λ h.
    once None (option_named (options_of h) x.selected_option) (λ o.
    Some (record { place = record { scope = h.scope; ty = o.ty }; constraints = o.constraints })))

-- ---- fields of classes

-- what the type of a class's field is: an open type, or the type that the field fixes
pub data FieldType : Type 0 where
  Open : FieldType
  Fixed : ASN1Type → FieldType

-- a class's name is no type
abbrev pub fixed_at : Definitions → ASN1Type → Kind → Option FieldType
fixed_at defs ty (ReferenceKind x) = if is_none x.parent && is_class defs x.identifier then None else Some (Fixed ty)
fixed_at defs ty _ = Some (Fixed ty)

abbrev pub fixed_or_open : Definitions → Option ASN1Type → Option FieldType
fixed_or_open defs None = Some Open
fixed_or_open defs (Some ty) = fixed_at defs ty (kind_of_type ty)

-- `C.&f` (X.681 14.1); a dummy is no class
abbrev pub class_field_type : Definitions → Scope → ClassFieldLayer → Option FieldType
class_field_type defs scope x =
    if is_some (bound_to scope x.class) then None else
    once None (class_named defs x.class) (λ c. once None (field_at_path c x.field_path) (λ f. fixed_or_open defs f.ty))

-- the type of an object's field by the object's class
abbrev pub object_field_type : Definitions → InformationObject → List ℕ → Option FieldType
object_field_type defs o field = once None (class_named defs o.class_name) (λ c. once None (field_of c (marked field)) (λ f. fixed_or_open defs f.ty))

-- ---- all forms

-- where a type leads: it is a head; it leads on; or its name is missing or of another kind
pub data Lead : Type 0 where
  IsHead : Lead
  LeadsTo : Target → Lead
  IsLost : Lead

abbrev pub leading : Option Target → Lead
leading None = IsLost
leading (Some x) = LeadsTo x

abbrev pub field_lead : Option FieldType → Lead
field_lead None = IsLost
field_lead (Some Open) = IsHead
field_lead (Some (Fixed ty)) = LeadsTo (bare Empty ty)

-- A plain name, an argument list, a selection, a class's field of fixed type and a field of an object lead on; every other
-- type is a head, an open type too.
abbrev pub lead_at : Definitions → Meaning → Scope → Kind → Lead
lead_at defs M scope (ReferenceKind x) = leading (reference_target defs scope x)
lead_at defs M scope (SelectionKind x) = leading (selection_target M scope x)
lead_at defs M scope (FieldKind x) = field_lead (class_field_type defs scope x)
lead_at defs M scope _ = IsHead

abbrev pub lead : Definitions → Meaning → Place → Lead
lead defs M p = lead_at defs M p.scope (kind_of p)

abbrev pub head_from : Meaning → Place → Lead → Option Place
head_from M p IsHead = Some p
head_from M p (LeadsTo x) = M.head x.place
head_from M p IsLost = None

-- Head: the first type on the way that is none of these forms (X.680 14.1, 30; X.681 14, 15; X.683 9).
abbrev pub head_at : Definitions → Meaning → Place → Option Place
head_at defs M p = head_from M p (lead defs M p)
