-- Components of a constraint that are made of parts.
use Rattle.std.specs.Prelude.{ℕ, List, Option, unwrap_or}
use Rattle.asn_tree_kinds.specs.declared.constraints.ComponentPresence.{ComponentPresence}
use Rattle.asn_tree_kinds.specs.declared.constraints.ComponentPresence.TheVariants.{Unspecified}
use Rattle.asn_tree_kinds.specs.declared.constraints.ConstrainedComponentOver.{ConstrainedComponentOver}
use Rattle.asn_tree_equality.specs.Making.{listed}

-- a listed component of a `WITH COMPONENTS` (X.680 51.8.7); without a word on its presence it is unspecified
abbrev pub component_of : {C : Type 0} → List ℕ → Option (List C) → Option ComponentPresence → ConstrainedComponentOver C
component_of name constraints presence =
    record {
      identifier = name;
      constraints = listed constraints;
      presence = unwrap_or presence Unspecified;
    }
