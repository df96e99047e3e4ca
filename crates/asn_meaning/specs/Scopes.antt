-- Scopes: what a template's dummies stand for; and places: a type with the scope that it is read in.
use Rattle.std.specs.Prelude.{ℕ, List, [], ◌∷◌, Option, Some, None, if◌then◌else◌}
use Rattle.std.specs.Str.{bytes_eq}
use Rattle.asn_tree.specs.declared.constraints.Constraint.{Constraint}
use Rattle.asn_tree.specs.declared.constraints.Parameter.{Parameter}
use Rattle.asn_tree.specs.declared.definitions.ParameterGovernor.{ParameterGovernor}
use Rattle.asn_tree.specs.declared.definitions.ParameterizationArgument.{ParameterizationArgument}
use Rattle.asn_tree.specs.declared.types.ASN1Type.{ASN1Type}
use Rattle.asn_meaning.specs.Answers.{once}

-- Where names are looked up before the definitions. A definition without parameters has the empty scope. A template's
-- scope binds each dummy to its argument, which is read in a scope of its own (X.683 8.4, 9.7). In a template that is read
-- by itself a dummy has no argument. The last scope holds the other dummies.
pub data Scope : Type 0 where
  Empty : Scope
  Binds : List ℕ → ParameterGovernor → Parameter → Scope → Scope → Scope
  LeavesOpen : List ℕ → ParameterGovernor → Scope → Scope

-- an argument, and the scope that it is read in
pub record Argument : Type 0 where
  pub tree : Parameter
  pub scope : Scope

-- a dummy's governor, and its argument, where it has one
pub record Bound : Type 0 where
  pub governor : ParameterGovernor
  pub argument : Option Argument

-- what the scope binds the name to: the first dummy of the name counts
abbrev pub bound_to : Scope → List ℕ → Option Bound
bound_to Empty name = None
bound_to (Binds dummy governor argument scope others) name =
    if bytes_eq dummy name then Some (record { governor = governor; argument = Some (record { tree = argument; scope = scope }) }) else bound_to others name
bound_to (LeavesOpen dummy governor others) name =
    if bytes_eq dummy name then Some (record { governor = governor; argument = None }) else bound_to others name

-- The scope that an argument list on a template gives, where the list is written in `scope`: it binds the dummies of this
-- template alone. None where an argument is missing; further arguments are ignored.
abbrev pub entered : Scope → List ParameterizationArgument → List Parameter → Option Scope
entered scope [] arguments = Some Empty
entered scope (dummy ∷ dummies) [] = None
entered scope (dummy ∷ dummies) (argument ∷ arguments) =
    once None (entered scope dummies arguments) (λ others. Some (Binds dummy.dummy_reference dummy.param_governor argument scope others))

-- a type, and the scope that it is read in
pub record Place : Type 0 where
  pub scope : Scope
  pub ty : ASN1Type

-- where a name leads: a type at its place, and the constraints that come along behind it, to be read in the same scope
pub record Target : Type 0 where
  pub place : Place
  pub constraints : List Constraint

-- a type with nothing behind it
abbrev pub bare : Scope → ASN1Type → Target
bare scope ty = record { place = record { scope = scope; ty = ty }; constraints = [] }
