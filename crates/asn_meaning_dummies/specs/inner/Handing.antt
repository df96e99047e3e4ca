-- Arguments that are plain names of dummies.
use Rattle.std.specs.Prelude.{Option, None}
use Rattle.asn_tree.specs.declared.constraints.Parameter.{out-Parameter}
use Rattle.asn_meaning.specs.Answers.{once}
use Rattle.asn_meaning.specs.Scopes.{Argument, Bound, bound_to}
use Rattle.asn_needs.specs.Dummies.{argument_name}

-- what the argument's scope binds the argument to, where it is the plain name of a dummy
abbrev pub dummy_of : Argument → Option Bound
dummy_of a = once None (argument_name (out-Parameter a.tree)) (bound_to a.scope)
