-- What a module's tagging environment does to parts of trees that have no type of their own there.
use Rattle.std.specs.Prelude.{ℕ, List, Option, map}
use Rattle.asn_tree_kinds.specs.declared.constraints.ConstrainedComponentOver.{ConstrainedComponentOver}
use Rattle.asn_tree.specs.declared.constraints.Constraint.{Constraint}
use Rattle.asn_tree_headers.specs.declared.headers.TaggingEnvironment.{TaggingEnvironment}
use Rattle.asn_tree.specs.declared.values.ASN1Value.{ASN1Value}
use Rattle.asn_tree.specs.Passes.{rewritten_constraint}
use Rattle.asn_tree.specs.Tagging.{retagging, retagged_value}

-- a value with its name
abbrev pub retagged_named : TaggingEnvironment → Option (List ℕ) × ASN1Value → Option (List ℕ) × ASN1Value
retagged_named e p = (p.0, retagged_value e p.1)

-- a listed component of a `WITH COMPONENTS`
abbrev pub retagged_component : TaggingEnvironment → ConstrainedComponentOver Constraint → ConstrainedComponentOver Constraint
retagged_component e c = record c { constraints = map (rewritten_constraint (retagging e)) c.constraints }
