-- The dummies of one template, each with the argument at its place, where there is one.
use Rattle.std.specs.Prelude.{ℕ, List, [], ◌∷◌, Option, Some, None, if◌then◌else◌}
use Rattle.std.specs.Option.{option_copied, option_map}
use Rattle.std.specs.Str.{bytes_eq}
use Rattle.asn_meaning_heads.specs.declared.scopes.Held.{Held as LentHeld}
use Rattle.asn_tree.specs.declared.constraints.Parameter.{Parameter}
use Rattle.asn_tree.specs.declared.definitions.ParameterGovernor.{ParameterGovernor}
use Rattle.asn_tree.specs.declared.definitions.ParameterizationArgument.{ParameterizationArgument}
use Rattle.asn_meaning.specs.Scopes.{Argument, Scope}

-- a dummy's governor with its argument, where it has one
pub record Held : Type 0 where
  pub governor : ParameterGovernor
  pub argument : Option Parameter

-- the first dummy of the name
abbrev pub held : List ParameterizationArgument → List Parameter → List ℕ → Option Held
held [] arguments name = None
held (dummy ∷ dummies) [] name =
    if bytes_eq dummy.dummy_reference name then Some (record { governor = dummy.param_governor; argument = None }) else held dummies [] name
held (dummy ∷ dummies) (argument ∷ arguments) name =
    if bytes_eq dummy.dummy_reference name then Some (record { governor = dummy.param_governor; argument = Some argument }) else held dummies arguments name

abbrev pub shown_held : LentHeld → Held
shown_held h = record { governor = h.governor.now; argument = option_copied h.argument }

-- an argument that is read in this scope
abbrev pub read_in : Scope → Option Parameter → Option Argument
read_in scope argument = option_map (λ tree. record { tree = tree; scope = scope }) argument
