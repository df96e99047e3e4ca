-- Definitions of values (X.680 16.2).
use Rattle.std.specs.Prelude.{ℕ, List, Option, Some, None}
use Rattle.asn_rules.specs.declared.names.TheConstants.{ASN1_TYPE, ASN1_VALUE, ENUMERATED_VALUE, VALUE_IDENTIFIER}
use Rattle.asn_rules.specs.declared.node.Node.{Node}
use Rattle.asn_rules.specs.Nodes.{at_child, child_of, nth_child_of, the}
use Rattle.asn_tree.specs.declared.definitions.ToplevelValueDefinition.{ToplevelValueDefinition}
use Rattle.asn_tree.specs.declared.types.ASN1Type.{ASN1Type}
use Rattle.asn_tree.specs.declared.values.ASN1Value.{ASN1Value}
use Rattle.asn_tree.specs.declared.values.ASN1Value.TheVariants.{EnumeratedValue}
use Rattle.asn_calls.specs.Types.{type_name}
use Rattle.asn_read_nodes.specs.Parts.{name_of, of_some}
use Rattle.asn_types.specs.Reading.{type_of}
use Rattle.asn_values.specs.Braces.{value_of}
use Rattle.asn_modules.specs.Headings.{Heading, heading_of}

-- the definition of these parts
abbrev pub a_value_definition : Heading → ASN1Type → ASN1Value → ToplevelValueDefinition
a_value_definition heading type value =
    record { comments = heading.0; name = heading.1; associated_type = type; parameterization = heading.2; value = value; index = None }

-- comments, a name, parameters and a type; behind the assignment a value of any form
abbrev pub plain_value_of : List ℕ → Node → Option ToplevelValueDefinition
plain_value_of text n =
    of_some (the (child_of n VALUE_IDENTIFIER) (heading_of text n)) (λ heading. of_some (the (child_of n ASN1_TYPE) (type_of text)) (λ type. of_some (the (child_of n ASN1_VALUE) (value_of text)) (λ value.
    Some (a_value_definition heading type value))))

-- the item of this name, under what the type is called
abbrev pub an_item : List ℕ → ASN1Type → Node → Option ASN1Value
an_item text type n = of_some (name_of text n) (λ item. Some (EnumeratedValue (type_name type) item))

-- the same, and behind the assignment the name of an item
abbrev pub enumerated_value_of : List ℕ → Node → Option ToplevelValueDefinition
enumerated_value_of text n =
    of_some (the (child_of n VALUE_IDENTIFIER) (heading_of text n)) (λ heading. of_some (the (child_of n ASN1_TYPE) (type_of text)) (λ type. of_some (the (nth_child_of n VALUE_IDENTIFIER 1) (an_item text type)) (λ value.
    Some (a_value_definition heading type value))))

-- one of both
abbrev pub value_definition_of : List ℕ → Node → Option ToplevelValueDefinition
value_definition_of text n = at_child (child_of n ENUMERATED_VALUE) (plain_value_of text n) (enumerated_value_of text)
