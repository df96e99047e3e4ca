-- Object identifiers (X.680 32.3).
use Rattle.std.specs.Prelude.{ℕ, List, Option, Some}
use Rattle.asn_tree_headers.specs.declared.headers.ObjectIdentifierArc.{ObjectIdentifierArc}
use Rattle.asn_rules.specs.declared.names.TheConstants.{NUMBER_U128, OBJECT_IDENTIFIER_ARC, VALUE_IDENTIFIER}
use Rattle.asn_rules.specs.declared.node.Node.{Node}
use Rattle.asn_rules.specs.declared.node.Node.TheViews.{out-Node}
use Rattle.asn_rules.specs.Nodes.{at_children, child_of}
use Rattle.asn_read_nodes.specs.Parts.{all_some, if_there, name_of, natural_of, of_some}

-- an arc: a name, a number, or both
abbrev pub arc_of : List ℕ → Node → Option ObjectIdentifierArc
arc_of text n =
    of_some (if_there (child_of n VALUE_IDENTIFIER) (name_of text)) (λ name. of_some (if_there (child_of n NUMBER_U128) (natural_of 128 text)) (λ number.
    Some (record { name = name; number = number })))

abbrev pub arcs_in : List ℕ → List Node → Option (List ObjectIdentifierArc)
arcs_in text ns = all_some (at_children ns OBJECT_IDENTIFIER_ARC (arc_of text))

-- its arcs in order; the words before the braces leave no trace
abbrev pub arcs_of : List ℕ → Node → Option (List ObjectIdentifierArc)
arcs_of text n = arcs_in text (out-Node n).children
