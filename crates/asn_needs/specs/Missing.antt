-- The third and the fourth fault: what a name lacks, and what is not linked.
use Rattle.std.specs.Prelude.{ℕ, List, Bool, true, false, Option, Some, None, is_some, is_none, ◌||◌, ◌&&◌, not, if◌then◌else◌}
use Rattle.std.specs.List.{list_any}
use Rattle.asn_tree.specs.declared.constraints.Parameter.{out-Parameter}
use Rattle.asn_tree.specs.declared.definitions.ParameterGovernor.{ParameterGovernor}
use Rattle.asn_tree.specs.declared.definitions.ParameterGovernor.TheVariants as governor
use Rattle.asn_tree.specs.declared.objects.InformationObject.{InformationObject}
use Rattle.asn_tree.specs.declared.objects.InformationObjectClass.{InformationObjectClass}
use Rattle.asn_tree.specs.declared.objects.InformationObjectField.{InformationObjectField, InformationObjectField-F, out-InformationObjectField}
use Rattle.asn_tree.specs.declared.objects.InformationObjectFields.{out-InformationObjectFields}
use Rattle.asn_tree_notation.specs.Syntax.{given_name}
use Rattle.asn_meaning.specs.Accepts.{place}
use Rattle.asn_meaning.specs.Answers.{once}
use Rattle.asn_meaning.specs.Definitions.{Definitions, class_named, object_named}
use Rattle.asn_meaning.specs.Kinds.{Kind, FieldKind, ReferenceKind, SelectionKind, kind_of_type}
use Rattle.asn_meaning.specs.Layers.{ClassFieldLayer, FieldLayer, ReferenceLayer}
use Rattle.asn_meaning.specs.Meaning.{Meaning}
use Rattle.asn_meaning.specs.Members.{members_of, member_named, struct_of}
use Rattle.asn_meaning.specs.Names.{class_field_type, marked, option_named, options_of}
use Rattle.asn_meaning.specs.Objects.{field_of, given, given_at}
use Rattle.asn_meaning.specs.Scopes.{Argument, Scope, bound_to, Place}
use Rattle.asn_meaning.specs.Written.{Written, NameWritten, as_written}
use Rattle.asn_needs.specs.Arguments.{is_braced, is_unknown}
use Rattle.asn_needs.specs.Dummies.{Wanted, WantsType, WantsSet, WantsNone, handed_on, is_class_name, is_dummy, is_information, misplaced}
use Rattle.asn_needs.specs.Followed.{named_place}
use Rattle.asn_needs.specs.Occurrences.{governed_by_class, is_path, lacks_definition, names_at}
use Rattle.asn_needs.specs.PartsOfTypes.{here, is_own, is_aside}
use Rattle.asn_needs.specs.PartsOfObjects.{type_in_class}
use Rattle.asn_needs.specs.Sites.{Seen, Site, Form, AType, ComponentsOf, AValue, AConstraint, ASet, AnElement, AListed, LooseList, AnArgument, NoArgument, LooseArgument, ADummy, ClassName, ClassField, AnObject, GivenField, LooseField, AnObjectSet, SetName}

-- ---- dummies

-- Under its arguments a dummy counts as its argument; this is of another kind than the dummy's place needs.
abbrev pub wrong_dummy : Seen → Scope → Wanted → List ℕ → Bool
wrong_dummy S scope wanted name = once false (bound_to scope name) (λ b. misplaced S scope b wanted)

-- ---- objects and classes

-- the class's field of that name, if it has one, has the name of a class for its type
abbrev pub is_class_field : Definitions → InformationObject → List ℕ → Bool
is_class_field defs o name = once false (type_in_class (class_named defs o.class_name) name) (is_class_name defs)

abbrev pub fields_known : Definitions → InformationObject → Bool
fields_known defs o = is_some (given_at (class_named defs o.class_name) (out-InformationObjectFields o.fields))

abbrev pub is_type_field : FieldLayer → Bool
is_type_field (InformationObjectField-F.TypeField x) = true
is_type_field (InformationObjectField-F.FixedValueField x) = false
is_type_field (InformationObjectField-F.ObjectSetField x) = false

abbrev pub is_value_field : FieldLayer → Bool
is_value_field (InformationObjectField-F.TypeField x) = false
is_value_field (InformationObjectField-F.FixedValueField x) = true
is_value_field (InformationObjectField-F.ObjectSetField x) = false

-- A path to a class's field whose type is a class's name has no type there. What items give that do not follow their syntax
-- is unknown.
abbrev pub object_lacks : Definitions → (FieldLayer → Bool) → InformationObject → List ℕ → Bool
object_lacks defs is_wanted o name =
    is_class_field defs o name
    || (fields_known defs o && not (once false (given defs o name) (λ f. is_wanted (out-InformationObjectField f))))

-- `o.&f`, where o is an object: it lacks the field (X.681 15.1)
abbrev pub path_lacks : Seen → Scope → (FieldLayer → Bool) → List ℕ → List ℕ → Bool
path_lacks S scope is_wanted o name =
    wrong_dummy S scope WantsNone o
    || (not (is_dummy scope o) && once false (object_named S.defs o) (λ object. object_lacks S.defs is_wanted object (marked name)))

-- `C.&f`, where C is a class: it lacks the field (X.681 14.1)
abbrev pub class_lacks : Seen → Scope → ClassFieldLayer → Bool
class_lacks S scope x =
    wrong_dummy S scope WantsNone x.class
    || (not (is_dummy scope x.class) && (is_some (class_named S.defs x.class) && is_none (class_field_type S.defs scope x)))

-- ---- heads

-- the CHOICE of a selection has a head that is no CHOICE or has no such option (X.680 30.1)
abbrev pub selection_lacks : Seen → Scope → List ℕ → List ℕ → Bool
selection_lacks S scope choice option =
    wrong_dummy S scope WantsType choice
    || once false (S.known.head (named_place scope choice)) (λ head. is_none (option_named (options_of head) option))

-- what stands behind COMPONENTS OF has a head that is no SEQUENCE or SET (X.680 25.5)
abbrev pub components_lack : Seen → Scope → List ℕ → Bool
components_lack S scope name =
    wrong_dummy S scope WantsType name || once false (S.known.head (named_place scope name)) (λ head. is_none (struct_of head))

-- the component that WITH COMPONENTS lists: members that are not known lack nothing
abbrev pub lists_unknown : Meaning → Place → List ℕ → Bool
lists_unknown M head name =
    if is_some (struct_of head) then once false (members_of M head) (λ ms. is_none (member_named ms name))
    else is_none (option_named (options_of head) name)

abbrev pub listed_lacks : Seen → Option Place → List ℕ → Bool
listed_lacks S p name = once false p (λ q. once false (S.known.head q) (λ head. lists_unknown S.known head name))

-- ---- types, values, arguments

abbrev pub reference_lacks : Seen → Scope → ReferenceLayer → Option (List ℕ) → Bool
reference_lacks S scope x None = wrong_dummy S scope WantsType x.identifier
reference_lacks S scope x (Some o) = is_path o || path_lacks S scope is_type_field o x.identifier

abbrev pub type_lacks : Seen → Scope → Kind → Bool
type_lacks S scope (ReferenceKind x) = reference_lacks S scope x x.parent
type_lacks S scope (SelectionKind x) = selection_lacks S scope x.choice_name x.selected_option
type_lacks S scope (FieldKind x) = class_lacks S scope x
type_lacks S scope _ = false

abbrev pub value_lacks : Seen → Scope → Written → Bool
value_lacks S scope (NameWritten (Some o) name) = not (is_path o) && path_lacks S scope is_value_field o name
value_lacks S scope _ = false

abbrev pub is_governed_by_class : Seen → Scope → ParameterGovernor → Bool
is_governed_by_class S inner governor.None = false
is_governed_by_class S inner (governor.TypeOrClass g) = is_class_name S.defs (place inner g)
is_governed_by_class S inner (governor.Class c) = false

abbrev pub argument_unknown : Seen → Scope → ParameterGovernor → Option Argument → Bool
argument_unknown S inner g a =
    not (is_aside S inner g a) && (is_governed_by_class S inner g && once false a (λ b. is_unknown S.defs (out-Parameter b.tree)))

abbrev pub field_lacking : Option InformationObjectClass → InformationObjectField → Bool
field_lacking c f = once false c (λ k. is_none (field_of k (given_name f)))

abbrev pub form_lacks : Seen → Site → Form → Bool
form_lacks S s (AType at ty behind) = type_lacks S s.scope (kind_of_type ty)
form_lacks S s (ComponentsOf name) = not (is_path name) && components_lack S s.scope name
form_lacks S s (AValue at v p) = not (governed_by_class S p) && value_lacks S s.scope (as_written v)
form_lacks S s (AConstraint c p) = false
form_lacks S s (ASet asked set p) = false
form_lacks S s (AnElement asked e p) = false
form_lacks S s (AListed c p) = listed_lacks S p c.identifier
form_lacks S s LooseList = false
form_lacks S s (AnArgument p dummy inner) = argument_unknown S inner dummy.param_governor (handed_on S.steps (here s p))
form_lacks S s NoArgument = false
form_lacks S s (LooseArgument p) = false
form_lacks S s (ADummy dummy) = false
form_lacks S s (ClassName name) = wrong_dummy S s.scope WantsNone name
form_lacks S s (ClassField at f) = false
form_lacks S s (AnObject c fields) = false
form_lacks S s (GivenField c f) = field_lacking c f
form_lacks S s (LooseField f) = false
form_lacks S s (AnObjectSet c set) = false
form_lacks S s (SetName name) = wrong_dummy S s.scope WantsSet name

-- A name, dummies and arcs aside, has no definition of the kind that its place needs, or that definition lacks the named
-- field, member or alternative. Lacking means that some number of steps shows it.
abbrev pub name_missing : Seen → Site → Bool
name_missing S s = form_lacks S s s.form || list_any (lacks_definition S.defs) (names_at S s s.form)

-- ---- what is not linked

abbrev pub is_long_path : Written → Bool
is_long_path (NameWritten (Some o) name) = is_path o
is_long_path _ = false

-- an argument that is or names an object or a class; braces where the governor is a class
abbrev pub argument_unsupported : Seen → Scope → ParameterGovernor → Argument → Bool
argument_unsupported S inner g a =
    if is_information S.defs a && not (is_own S inner g a) then true else is_governed_by_class S inner g && is_braced (out-Parameter a.tree)

abbrev pub is_set_field : FieldLayer → Bool
is_set_field (InformationObjectField-F.TypeField x) = false
is_set_field (InformationObjectField-F.FixedValueField x) = false
is_set_field (InformationObjectField-F.ObjectSetField x) = true

abbrev pub unsupported_form : Seen → Site → Form → Bool
unsupported_form S s (AType at ty behind) = false
unsupported_form S s (ComponentsOf name) = is_path name
unsupported_form S s (AValue at v p) = not (governed_by_class S p) && is_long_path (as_written v)
unsupported_form S s (AConstraint c p) = false
unsupported_form S s (ASet asked set p) = false
unsupported_form S s (AnElement asked e p) = false
unsupported_form S s (AListed c p) = false
unsupported_form S s LooseList = false
unsupported_form S s (AnArgument p dummy inner) = once false (handed_on S.steps (here s p)) (argument_unsupported S inner dummy.param_governor)
unsupported_form S s NoArgument = false
unsupported_form S s (LooseArgument p) = false
unsupported_form S s (ADummy dummy) = false
unsupported_form S s (ClassName name) = false
unsupported_form S s (ClassField at f) = false
unsupported_form S s (AnObject c fields) = false
unsupported_form S s (GivenField c f) = is_set_field (out-InformationObjectField f)
unsupported_form S s (LooseField f) = false
unsupported_form S s (AnObjectSet c set) = false
unsupported_form S s (SetName name) = false

-- A path of a value of more than two steps, COMPONENTS OF a class's field, an object or class as an argument, an object set as
-- the field of an object.
abbrev pub unsupported : Seen → Site → Bool
unsupported S s = unsupported_form S s s.form
