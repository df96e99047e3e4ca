-- Named numbers (X.680 19.1) and named bits (X.680 22.1).
use Rattle.std.specs.Prelude.{ℕ, List, Option, Some}
use Rattle.asn_tree_kinds.specs.declared.types.DistinguishedValue.{DistinguishedValue}
use Rattle.asn_rules.specs.declared.names.TheConstants.{DISTINGUISHED_VAL, IDENTIFIER, NUMBER_I128}
use Rattle.asn_rules.specs.declared.node.Node.{Node}
use Rattle.asn_rules.specs.declared.node.Node.TheViews.{out-Node}
use Rattle.asn_rules.specs.Nodes.{at_children, child_of, the}
use Rattle.asn_read_nodes.specs.Parts.{all_some, integer_of, name_of, of_some}

-- a name with its number
abbrev pub distinguished_of : List ℕ → Node → Option DistinguishedValue
distinguished_of text n =
    of_some (the (child_of n IDENTIFIER) (name_of text)) (λ name. of_some (the (child_of n NUMBER_I128) (integer_of 127 text)) (λ number. Some (record { name = name; value = number })))

abbrev pub distinguished_in : List ℕ → List Node → Option (List DistinguishedValue)
distinguished_in text ns = all_some (at_children ns DISTINGUISHED_VAL (distinguished_of text))

-- names with their numbers, in order
abbrev pub distinguished_values_of : List ℕ → Node → Option (List DistinguishedValue)
distinguished_values_of text n = distinguished_in text (out-Node n).children
