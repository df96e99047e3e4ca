-- The dummies of one template with their arguments.
use Rattle.std.specs.Prelude.{ℕ, List, [], ◌∷◌, Option, Some, None, if◌then◌else◌}
use Rattle.std.specs.Str.{bytes_eq}
use Rattle.asn_tree.specs.declared.constraints.Parameter.{Parameter}
use Rattle.asn_tree.specs.declared.definitions.ParameterGovernor.{ParameterGovernor}
use Rattle.asn_tree.specs.declared.definitions.ParameterizationArgument.{ParameterizationArgument}
use Rattle.asn_names_index.specs.declared.dummies.Pair.{Pair as LentPair}
use Rattle.asn_meaning.specs.Scopes.{Scope, Empty, Binds}

-- The scope that binds each dummy to the argument at its place, which is read in this scope, up to the first without an argument
-- (X.683 9.7).
abbrev pub binding : Scope → List ParameterizationArgument → List Parameter → Scope
binding scope [] arguments = Empty
binding scope (dummy ∷ dummies) [] = Empty
binding scope (dummy ∷ dummies) (argument ∷ arguments) = Binds dummy.dummy_reference dummy.param_governor argument scope (binding scope dummies arguments)

-- a dummy's governor with its argument
pub record Pair : Type 0 where
  pub governor : ParameterGovernor
  pub argument : Parameter

-- the first dummy of the name with its argument
abbrev pub pair_of : List ParameterizationArgument → List Parameter → List ℕ → Option Pair
pair_of [] arguments name = None
pair_of (dummy ∷ dummies) [] name = None
pair_of (dummy ∷ dummies) (argument ∷ arguments) name =
    if bytes_eq dummy.dummy_reference name then Some (record { governor = dummy.param_governor; argument = argument }) else pair_of dummies arguments name

abbrev pub shown_pair : LentPair → Pair
shown_pair p = record { governor = p.governor.now; argument = p.argument.now }
