-- The names that lead to a value (X.681 15).
use Rattle.std.specs.Prelude.{ℕ, List, ◌++◌, codes, fold, Option, Some, None}
use Rattle.asn_rules.specs.declared.names.TheConstants.{IDENTIFIER, PATH_STEP}
use Rattle.asn_rules.specs.declared.node.Node.{Node}
use Rattle.asn_rules.specs.declared.node.Node.TheViews.{out-Node}
use Rattle.asn_rules.specs.Nodes.{at_children, child_of, the}
use Rattle.asn_read_nodes.specs.Parts.{all_some, name_of, of_some}

abbrev pub step_of : List ℕ → Node → Option (List ℕ)
step_of text n = the (child_of n IDENTIFIER) (name_of text)

abbrev pub steps_in : List ℕ → List Node → Option (List (List ℕ))
steps_in text ns = all_some (at_children ns PATH_STEP (step_of text))

abbrev pub with_step : Option (List ℕ) → List ℕ → Option (List ℕ)
with_step None step = Some step
with_step (Some path) step = Some ((path ++ codes ".&") ++ step)

-- the steps joined by `.&`; none where there are none
abbrev pub joined : List (List ℕ) → Option (List ℕ)
joined steps = fold with_step None steps

abbrev pub parent_of : List ℕ → Node → Option (Option (List ℕ))
parent_of text n = of_some (steps_in text (out-Node n).children) (λ steps. Some (joined steps))
