-- The scope that a scope of the code stands for.
use Rattle.std.specs.Prelude.{List, [], ◌∷◌}
use Rattle.std.specs.Option.{option_map}
use Rattle.asn_tree.specs.declared.constraints.Parameter.{Parameter}
use Rattle.asn_tree.specs.declared.definitions.ParameterizationArgument.{ParameterizationArgument}
use Rattle.asn_meaning_heads.specs.declared.scopes.Argument.{Argument as LentArgument}
use Rattle.asn_meaning_heads.specs.declared.scopes.Bound.{Bound as LentBound}
use Rattle.asn_meaning_heads.specs.declared.scopes.Scope.{Scope as OwnScope, Scope-F, fold-Scope}
use Rattle.asn_meaning.specs.Scopes.{Argument, Bound, Scope, Empty, Binds, LeavesOpen}

-- The scope that binds each dummy to the argument at its place, which is read in this scope; a dummy without an argument stands
-- for none (X.683 8.4, 9.7).
abbrev pub filling : Scope → List ParameterizationArgument → List Parameter → Scope
filling scope [] arguments = Empty
filling scope (dummy ∷ dummies) [] = LeavesOpen dummy.dummy_reference dummy.param_governor (filling scope dummies [])
filling scope (dummy ∷ dummies) (argument ∷ arguments) = Binds dummy.dummy_reference dummy.param_governor argument scope (filling scope dummies arguments)

-- one level of a scope, where the scope in it stands for this
abbrev pub shown_at : Scope-F Scope → Scope
shown_at Scope-F.Empty = Empty
shown_at (Scope-F.Entered dummies arguments scope) = filling scope.value dummies.now arguments.now

unfoldable pub shown : OwnScope → Scope
shown = fold-Scope Scope shown_at

abbrev pub shown_argument : LentArgument → Argument
shown_argument a = record { tree = a.tree.now; scope = shown a.scope.now }

abbrev pub shown_bound : LentBound → Bound
shown_bound b = record { governor = b.governor.now; argument = option_map shown_argument b.argument }
