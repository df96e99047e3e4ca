-- The parameters of templates (X.683 8.1).
use Rattle.std.specs.Prelude.{ℕ, List, Option, Some}
use Rattle.asn_rules.specs.declared.names.TheConstants.{ASN1_TYPE, DUMMY, IDENTIFIER, VALUE_IDENTIFIER}
use Rattle.asn_rules.specs.declared.node.Node.{Node}
use Rattle.asn_rules.specs.declared.node.Node.TheViews.{out-Node}
use Rattle.asn_rules.specs.Nodes.{at_child, at_children, child_of, nth_child_of, the}
use Rattle.asn_tree.specs.declared.definitions.ParameterGovernor.{ParameterGovernor}
use Rattle.asn_tree.specs.declared.definitions.ParameterGovernor.TheVariants as governor
use Rattle.asn_tree.specs.declared.definitions.Parameterization.{Parameterization}
use Rattle.asn_tree.specs.declared.definitions.ParameterizationArgument.{ParameterizationArgument}
use Rattle.asn_read_nodes.specs.Parts.{all_some, name_of, of_some}
use Rattle.asn_types.specs.Reading.{type_of}

-- the name with what governs it
abbrev pub governed : List ℕ → Option ParameterGovernor → Node → Option ParameterizationArgument
governed text by n = of_some by (λ by. of_some (name_of text n) (λ name. Some (record { dummy_reference = name; param_governor = by })))

-- the type before a name in small letters, or nothing
abbrev pub type_before : List ℕ → Node → Option ParameterGovernor
type_before text n = at_child (child_of n ASN1_TYPE) (Some governor.None) (λ type. of_some (type_of text type) (λ type. Some (governor.TypeOrClass type)))

-- the class before another name
abbrev pub class_before : List ℕ → Node → Option ParameterGovernor
class_before text n = of_some (the (child_of n IDENTIFIER) (name_of text)) (λ name. Some (governor.Class name))

-- A dummy: one in small letters, governed by the type before it or by nothing; another, governed by the class before it or
-- by nothing.
abbrev pub dummy_of : List ℕ → Node → Option ParameterizationArgument
dummy_of text n =
    at_child (child_of n VALUE_IDENTIFIER) (at_child (nth_child_of n IDENTIFIER 1) (the (child_of n IDENTIFIER) (governed text (Some governor.None))) (governed text (class_before text n))) (governed text (type_before text n))

abbrev pub dummies_in : List ℕ → List Node → Option (List ParameterizationArgument)
dummies_in text ns = all_some (at_children ns DUMMY (dummy_of text))

-- the dummies in the braces, in order
abbrev pub parameterization_of : List ℕ → Node → Option Parameterization
parameterization_of text n = of_some (dummies_in text (out-Node n).children) (λ dummies. Some (record { parameters = dummies }))
