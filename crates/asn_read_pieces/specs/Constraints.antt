-- Constraints that hold no tree.
use Rattle.std.specs.Prelude.{ℕ, List, length, Option, Some}
use Rattle.std.specs.Str.Lossy.{utf8_lossy}
use Rattle.asn_tree_kinds.specs.declared.constraints.PatternConstraint.{PatternConstraint}
use Rattle.asn_tree_kinds.specs.declared.constraints.RelationalConstraint.{RelationalConstraint}
use Rattle.asn_tree_kinds.specs.declared.constraints.UserDefinedConstraint.{UserDefinedConstraint}
use Rattle.asn_rules.specs.declared.names.TheConstants.{BRACE_GROUP, BRACE_TEXT, DOTS, IDENTIFIER, QUOTED, QUOTED_BODY, RELATIONAL_CONSTRAINT}
use Rattle.asn_rules.specs.declared.node.Node.{Node}
use Rattle.asn_rules.specs.declared.node.Node.TheViews.{out-Node}
use Rattle.asn_rules.specs.Nodes.{at_children, child_of, the}
use Rattle.asn_read_nodes.specs.Parts.{all_some, name_of, of_some, taken}

-- a member that a table's column belongs to: the name behind `@`, and how many dots stand between (X.682 10.7)
abbrev pub relation_of : List ℕ → Node → Option RelationalConstraint
relation_of text n =
    of_some (the (child_of n DOTS) (λ dots. Some (length (taken text dots)))) (λ level. of_some (the (child_of n IDENTIFIER) (name_of text)) (λ name. Some (record { field_name = name; level = level })))

abbrev pub relations_in : List ℕ → List Node → Option (List RelationalConstraint)
relations_in text ns = all_some (at_children ns RELATIONAL_CONSTRAINT (relation_of text))

-- the members in the braces, in order
abbrev pub relations_of : List ℕ → Node → Option (List RelationalConstraint)
relations_of text n = relations_in text (out-Node n).children

-- what stands between the quotes, with its doubled quotes
abbrev pub body_of : List ℕ → Node → Option (List ℕ)
body_of text n = the (child_of n QUOTED_BODY) (λ body. Some (utf8_lossy (taken text body)))

-- a pattern: the text between its quotes; doubled quotes stay doubled (X.680 51.9)
abbrev pub pattern_of : List ℕ → Node → Option PatternConstraint
pattern_of text n = of_some (the (child_of n QUOTED) (body_of text)) (λ pattern. Some (record { pattern = pattern }))

-- the text inside the outer braces
abbrev pub brace_text_of : List ℕ → Node → Option (List ℕ)
brace_text_of text n = the (child_of n BRACE_TEXT) (λ inside. Some (utf8_lossy (taken text inside)))

-- a constraint that is told in words (X.682 9.1)
abbrev pub user_defined_of : List ℕ → Node → Option UserDefinedConstraint
user_defined_of text n = of_some (the (child_of n BRACE_GROUP) (brace_text_of text)) (λ definition. Some (record { definition = definition }))
