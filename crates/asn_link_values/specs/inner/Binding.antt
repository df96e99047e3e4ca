-- The arguments of dummies that are sets, and how deep scopes lie in each other.
use Rattle.std.specs.Prelude.{ℕ, suc, ◌+◌, List, [], ◌∷◌, Option, None}
use Rattle.asn_tree_headers.specs.declared.headers.ObjectIdentifierArc.{ObjectIdentifierArc}
use Rattle.asn_meaning.specs.Answers.{once}
use Rattle.asn_meaning.specs.Scopes.{Argument, Scope, Empty, Binds, LeavesOpen, bound_to}
use Rattle.asn_meaning.specs.Written.{Written, ArcsWritten}

-- the argument that a scope binds the name to
abbrev pub argument_bound : Scope → List ℕ → Option Argument
argument_bound scope name = once None (bound_to scope name) (λ b. b.argument)

-- how many arguments a scope binds, with those of the scopes in it
abbrev pub depth : Scope → ℕ
depth Empty = 0
depth (Binds dummy governor argument scope others) = suc (depth scope + depth others)
depth (LeavesOpen dummy governor others) = depth others

-- the name of a single arc
abbrev pub arc_name : List ObjectIdentifierArc → Option (List ℕ)
arc_name (a ∷ []) = a.name
arc_name _ = None

-- the name in braces, which was read as an object identifier
abbrev pub name_in_braces : Written → Option (List ℕ)
name_in_braces (ArcsWritten arcs) = arc_name arcs
name_in_braces _ = None
