-- Names that lead on to names, whatever their arguments are.
use Rattle.std.specs.Prelude.{ℕ, zero, suc, List, Bool, false, ◌||◌, ◌&&◌, is_none, Option, Some, None, if◌then◌else◌}
use Rattle.std.specs.List.{list_any}
use Rattle.std.specs.Str.{bytes_eq}
use Rattle.asn_tree.specs.declared.definitions.Parameterization.{Parameterization}
use Rattle.asn_tree.specs.declared.definitions.ParameterizationArgument.{ParameterizationArgument}
use Rattle.asn_tree.specs.declared.definitions.ToplevelTypeDefinition.{ToplevelTypeDefinition}
use Rattle.asn_meaning.specs.Answers.{once}
use Rattle.asn_meaning.specs.Definitions.{Definitions, type_named}
use Rattle.asn_meaning.specs.Kinds.{Kind, ReferenceKind, kind_of, kind_of_type}
use Rattle.asn_meaning.specs.Layers.{ReferenceLayer}
use Rattle.asn_meaning.specs.Scopes.{Place, bound_to}

abbrev pub is_dummy_of : List ℕ → ParameterizationArgument → Bool
is_dummy_of name d = bytes_eq d.dummy_reference name

-- whether one of the parameters has the name
abbrev pub has_dummy : Option Parameterization → List ℕ → Bool
has_dummy None name = false
has_dummy (Some template) name = list_any (is_dummy_of name) template.parameters

-- the name of a reference with nothing before it
abbrev pub name_in : ReferenceLayer → Option (List ℕ)
name_in x = elim x.parent [ None ↦ Some x.identifier | Some parent ↦ None ]

-- the name that a type is, with nothing before it
abbrev pub plain_name_in : Kind → Option (List ℕ)
plain_name_in (ReferenceKind x) = name_in x
plain_name_in _ = None

-- the name that the type of a definition is, where it is none of the definition's dummies
abbrev pub name_behind : ToplevelTypeDefinition → Option (List ℕ)
name_behind d = once None (plain_name_in (kind_of_type d.ty)) (λ name. if has_dummy d.parameterization name then None else Some name)

-- the name that the definition of a name leads on to
abbrev pub next_name : Definitions → List ℕ → Option (List ℕ)
next_name defs name = once None (type_named defs name) name_behind

-- whether a name leads on to this one within so many turns
abbrev pub arrives : Definitions → List ℕ → ℕ → List ℕ → Bool
arrives defs goal zero name = false
arrives defs goal (suc turns) name = once false (next_name defs name) (λ next. bytes_eq next goal || arrives defs goal turns next)

-- whether the type at a place is a name, none of the place's dummies, that leads on to itself within so many turns
abbrev pub is_circular : Definitions → ℕ → Place → Bool
is_circular defs turns p = once false (plain_name_in (kind_of p)) (λ name. is_none (bound_to p.scope name) && arrives defs name turns name)
