-- What stands before the assignment in each definition.
use Rattle.std.specs.Prelude.{ℕ, List, Option, Some}
use Rattle.asn_rules.specs.declared.names.TheConstants.{COMMENTS, PARAMETERIZATION}
use Rattle.asn_rules.specs.declared.node.Node.{Node}
use Rattle.asn_rules.specs.Nodes.{child_of, the}
use Rattle.asn_tree.specs.declared.definitions.Parameterization.{Parameterization}
use Rattle.asn_read_headers.specs.Comments.{comments_of}
use Rattle.asn_read_nodes.specs.Parts.{if_there, name_of, of_some}
use Rattle.asn_types.specs.Dummies.{parameterization_of}

-- comments, a name, and parameters where some stand
abbrev pub Heading : Type 0
Heading = List ℕ × List ℕ × Option Parameterization

-- those of a definition, whose name is this node
abbrev pub heading_of : List ℕ → Node → Node → Option Heading
heading_of text n name =
    of_some (the (child_of n COMMENTS) (comments_of text)) (λ comments. of_some (name_of text name) (λ name. of_some (if_there (child_of n PARAMETERIZATION) (parameterization_of text)) (λ parameters. Some (comments, name, parameters))))
