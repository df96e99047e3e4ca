-- Constraints of types that may have no place for any.
use Rattle.std.specs.Prelude.{List, [], Option, Some, None}
use Rattle.asn_tree.specs.declared.constraints.Constraint.{Constraint}

-- the constraints; where there is no place for any, none
abbrev pub listed : Option (List Constraint) → List Constraint
listed None = []
listed (Some cs) = cs
