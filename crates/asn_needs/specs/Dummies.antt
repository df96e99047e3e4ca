-- Dummies: what they stand for, and those of a template that is read by itself.
use Rattle.std.specs.Prelude.{ℕ, zero, suc, List, [], ◌∷◌, Bool, true, false, not, Option, Some, None, is_some, is_none, ◌||◌, ◌&&◌, if◌then◌else◌}
use Rattle.asn_tree_headers.specs.declared.headers.ObjectIdentifierArc.{ObjectIdentifierArc}
use Rattle.asn_tree_kinds.specs.declared.objects.ObjectSetValueOver.TheVariants.{Reference}
use Rattle.asn_tree.specs.declared.constraints.Parameter.{Parameter, Parameter-F, out-Parameter}
use Rattle.asn_tree.specs.declared.definitions.ParameterGovernor.{ParameterGovernor}
use Rattle.asn_tree.specs.declared.definitions.ParameterGovernor.TheVariants as governor
use Rattle.asn_tree.specs.declared.definitions.ParameterizationArgument.{ParameterizationArgument}
use Rattle.asn_tree.specs.declared.objects.InformationObjectClass.{InformationObjectClass}
use Rattle.asn_meaning.specs.Accepts.{place}
use Rattle.asn_meaning.specs.Answers.{once}
use Rattle.asn_meaning.specs.Definitions.{Definitions, information_named, class_in, class_named, object_in, is_class}
use Rattle.asn_meaning.specs.Kinds.{Kind, FieldKind, ReferenceKind, SelectionKind, kind_of, kind_of_type}
use Rattle.asn_meaning.specs.Layers.{ParameterLayer, ReferenceLayer}
use Rattle.asn_meaning.specs.Meaning.{Meaning}
use Rattle.asn_meaning.specs.Names.{Lead, IsHead, LeadsTo, IsLost, lead, plain_name}
use Rattle.asn_meaning.specs.Scopes.{Scope, Empty, Binds, LeavesOpen, Argument, Bound, bound_to, Place}
use Rattle.asn_meaning.specs.Written.{Written, ArcsWritten, BracesWritten, NameWritten, NullWritten, as_written}
use Rattle.asn_needs.specs.Sites.{ObjectSet, Seen}

-- ---- scopes

-- whether the name is a dummy without an argument
abbrev pub is_free_dummy : Scope → List ℕ → Bool
is_free_dummy scope name = once false (bound_to scope name) (λ b. is_none b.argument)

abbrev pub is_dummy : Scope → List ℕ → Bool
is_dummy scope name = is_some (bound_to scope name)

-- the class that a name stands for in a scope; a dummy is no class, also where one of its name is defined (X.683 8.4)
abbrev pub class_in_scope : Definitions → Scope → List ℕ → Option InformationObjectClass
class_in_scope defs scope name = if is_dummy scope name then None else class_named defs name

-- The scope that an argument list gives, also where arguments are missing: a dummy without an argument stands for none.
-- Without arguments it is the scope of the template by itself (X.683 8.4, 9.7).
abbrev pub filled : Scope → List ParameterizationArgument → List Parameter → Scope
filled scope [] arguments = Empty
filled scope (dummy ∷ dummies) [] = LeavesOpen dummy.dummy_reference dummy.param_governor (filled scope dummies [])
filled scope (dummy ∷ dummies) (argument ∷ arguments) = Binds dummy.dummy_reference dummy.param_governor argument scope (filled scope dummies arguments)

-- ---- dummies handed on

abbrev pub bare_name_in : ReferenceLayer → Option (List ℕ)
bare_name_in x = elim x.constraints [ [] ↦ (if is_none x.parent then Some x.identifier else None) | c ∷ cs ↦ None ]

abbrev pub name_of_type : Kind → Option (List ℕ)
name_of_type (ReferenceKind x) = bare_name_in x
name_of_type _ = None

abbrev pub name_of_value : Written → Option (List ℕ)
name_of_value (NameWritten None name) = Some name
name_of_value _ = None

-- the plain name that an argument is
abbrev pub argument_name : ParameterLayer → Option (List ℕ)
argument_name (Parameter-F.ValueParameter v) = name_of_value (as_written v)
argument_name (Parameter-F.TypeParameter ty) = name_of_type (kind_of_type ty)
argument_name (Parameter-F.InformationObjectParameter fields) = None
argument_name (Parameter-F.ObjectSetParameter set) = None

-- A dummy that is handed on counts as its argument; None where that is a dummy without an argument.
abbrev pub handed_on : ℕ → Argument → Option Argument
handed_on zero a = Some a
handed_on (suc n) a =
    once (Some a) (argument_name (out-Parameter a.tree)) (λ name. once (Some a) (bound_to a.scope name) (λ b. once None b.argument (handed_on n)))

-- ---- kinds of arguments

abbrev pub is_object_or_class : Definitions → List ℕ → Bool
is_object_or_class defs name = once false (information_named defs name) (λ d. is_some (class_in d.value) || is_some (object_in d.value))

abbrev pub is_object : Definitions → List ℕ → Bool
is_object defs name = once false (information_named defs name) (λ d. is_some (object_in d.value))

abbrev pub names_type_object : Definitions → Scope → Kind → Bool
names_type_object defs scope (ReferenceKind x) = is_none x.parent && (is_none (bound_to scope x.identifier) && is_object_or_class defs x.identifier)
names_type_object defs scope _ = false

abbrev pub names_object : Definitions → Scope → Option (List ℕ) → Bool
names_object defs scope name = once false name (λ x. is_none (bound_to scope x) && is_object defs x)

abbrev pub is_information_at : Definitions → Scope → ParameterLayer → Bool
is_information_at defs scope (Parameter-F.ValueParameter v) = names_object defs scope (name_of_value (as_written v))
is_information_at defs scope (Parameter-F.TypeParameter ty) = names_type_object defs scope (kind_of_type ty)
is_information_at defs scope (Parameter-F.InformationObjectParameter fields) = true
is_information_at defs scope (Parameter-F.ObjectSetParameter set) = false

-- an argument that is or names an object or a class
abbrev pub is_information : Definitions → Argument → Bool
is_information defs a = is_information_at defs a.scope (out-Parameter a.tree)

abbrev pub single_arc : List ObjectIdentifierArc → Option (List ℕ)
single_arc (a ∷ []) = elim a.number [ None ↦ a.name | Some number ↦ None ]
single_arc _ = None

-- A single name in braces that was read as an object identifier is a set of that one reference, and `{}` is the empty set.
abbrev pub set_of_value : Written → Option ObjectSet
set_of_value (ArcsWritten arcs) = once None (single_arc arcs) (λ name. Some (record { values = Reference name ∷ []; extensible = None }))
set_of_value (BracesWritten []) = Some (record { values = []; extensible = None })
set_of_value _ = None

abbrev pub set_argument : ParameterLayer → Option ObjectSet
set_argument (Parameter-F.ValueParameter v) = set_of_value (as_written v)
set_argument (Parameter-F.TypeParameter ty) = None
set_argument (Parameter-F.InformationObjectParameter fields) = None
set_argument (Parameter-F.ObjectSetParameter set) = Some set

abbrev pub is_null : Written → Bool
is_null NullWritten = true
is_null _ = false

-- a type, or the value NULL
abbrev pub is_type_argument : ParameterLayer → Bool
is_type_argument (Parameter-F.ValueParameter v) = is_null (as_written v)
is_type_argument (Parameter-F.TypeParameter ty) = true
is_type_argument (Parameter-F.InformationObjectParameter fields) = false
is_type_argument (Parameter-F.ObjectSetParameter set) = false

-- ---- a dummy at a place of the template

-- what a place takes
pub data Wanted : Type 0 where
  WantsType : Wanted
  WantsSet : Wanted
  WantsNone : Wanted

abbrev pub serves : Wanted → ParameterLayer → Bool
serves WantsType p = is_type_argument p
serves WantsSet p = is_some (set_argument p)
serves WantsNone p = false

-- whether a type is the name of a class
abbrev pub is_class_at : Definitions → Scope → Kind → Bool
is_class_at defs scope (ReferenceKind x) = is_none x.parent && (is_none (bound_to scope x.identifier) && is_class defs x.identifier)
is_class_at defs scope _ = false

abbrev pub is_class_name : Definitions → Place → Bool
is_class_name defs p = is_class_at defs p.scope (kind_of p)

abbrev pub governs_objects : Definitions → Scope → ParameterGovernor → Bool
governs_objects defs scope governor.None = false
governs_objects defs scope (governor.TypeOrClass g) = is_class_at defs scope (kind_of_type g)
governs_objects defs scope (governor.Class name) = false

-- Whether an argument is of another kind than the dummy's place in the template needs. Arguments of no right kind are judged
-- where they are written.
abbrev pub unserved : Definitions → Scope → ParameterGovernor → Wanted → Argument → Bool
unserved defs scope g wanted a = not (is_information defs a || governs_objects defs scope g) && not (serves wanted (out-Parameter a.tree))

abbrev pub misplaced : Seen → Scope → Bound → Wanted → Bool
misplaced S scope b wanted =
    once false b.argument (λ a. once false (handed_on S.steps a) (unserved S.defs scope b.governor wanted))

-- ---- heads that hang on such a dummy

abbrev pub names_free_at : Scope → Kind → Bool
names_free_at scope (ReferenceKind x) = once (is_free_dummy scope x.identifier) x.parent (is_free_dummy scope)
names_free_at scope (SelectionKind x) = is_free_dummy scope x.choice_name
names_free_at scope (FieldKind x) = is_free_dummy scope x.class
names_free_at scope _ = false

-- the CHOICE of a selection
abbrev pub choice_at : Scope → Kind → Option Place
choice_at scope (SelectionKind x) = Some (place scope (plain_name x.choice_name))
choice_at scope _ = None

abbrev pub next_place : Lead → Option Place
next_place IsHead = None
next_place (LeadsTo x) = Some x.place
next_place IsLost = None

-- whether following a type's names arrives at a dummy without an argument
abbrev pub hangs : Definitions → Meaning → ℕ → Place → Bool
hangs defs M zero p = false
hangs defs M (suc n) p =
    names_free_at p.scope (kind_of p)
    || (once false (choice_at p.scope (kind_of p)) (hangs defs M n)
    || once false (next_place (lead defs M p)) (hangs defs M n))
