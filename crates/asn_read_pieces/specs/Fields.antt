-- Names of classes and of their fields, and paths of them (X.681 7, 14.1).
use Rattle.std.specs.Prelude.{ℕ, List, Option, Some}
use Rattle.asn_rules.specs.declared.names.TheConstants.{FIELD_STEP, IDENTIFIER, MULTIPLE_VALUE_FIELD_ID, OBJECT_FIELD_IDENTIFIER, SINGLE_VALUE_FIELD_ID, UPPERCASE_IDENTIFIER}
use Rattle.asn_rules.specs.declared.node.Node.{Node}
use Rattle.asn_rules.specs.declared.node.Node.TheViews.{out-Node}
use Rattle.asn_rules.specs.Nodes.{at_child, at_children, child_of, the}
use Rattle.asn_tree_leaves.specs.declared.objects.ObjectFieldIdentifier.{ObjectFieldIdentifier}
use Rattle.asn_tree_leaves.specs.declared.objects.ObjectFieldIdentifier.TheVariants.{MultipleValue, SingleValue}
use Rattle.asn_read_nodes.specs.Parts.{all_some, name_of, of_some}
use Rattle.asn_read_nodes.specs.Paths.{joined}

-- a name in capitals: that of a class, or a word of a class's own syntax (X.681 7.1, 7.9)
abbrev pub capitals_of : List ℕ → Node → Option (List ℕ)
capitals_of text n = the (child_of n UPPERCASE_IDENTIFIER) (name_of text)

abbrev pub named_by : (List ℕ → ObjectFieldIdentifier) → List ℕ → Node → Option ObjectFieldIdentifier
named_by field text n = of_some (name_of text n) (λ name. Some (field name))

-- The name of a field with its `&`; a small letter behind it tells a value or an object, a capital one a type or a set.
abbrev pub field_of : List ℕ → Node → Option ObjectFieldIdentifier
field_of text n =
    at_child (child_of n SINGLE_VALUE_FIELD_ID) (the (child_of n MULTIPLE_VALUE_FIELD_ID) (named_by MultipleValue text)) (named_by SingleValue text)

abbrev pub field_step_of : List ℕ → Node → Option ObjectFieldIdentifier
field_step_of text n = the (child_of n OBJECT_FIELD_IDENTIFIER) (field_of text)

abbrev pub fields_in : List ℕ → List Node → Option (List ObjectFieldIdentifier)
fields_in text ns = all_some (at_children ns FIELD_STEP (field_step_of text))

-- the fields behind a class's name, in order
abbrev pub field_path_of : List ℕ → Node → Option (List ObjectFieldIdentifier)
field_path_of text n = fields_in text (out-Node n).children

abbrev pub path_names_in : List ℕ → List Node → Option (List (List ℕ))
path_names_in text ns = all_some (at_children ns IDENTIFIER (name_of text))

-- the type whose components are taken over: its names joined by `.&` (X.680 25.5)
abbrev pub component_path_of : List ℕ → Node → Option (List ℕ)
component_path_of text n = of_some (path_names_in text (out-Node n).children) (λ names. joined names)
