-- What a node of each form of elements is that leads back to types or constraints, by what its children are.
use Rattle.std.specs.Prelude.{ℕ, List, Option}
use Rattle.asn_rules.specs.declared.names.TheConstants.{ASN1_TYPE, CONSTRAINT, ELEMENT_SET, MEMBER_LIST, SET_REST}
use Rattle.asn_rules.specs.declared.node.Node.{Node}
use Rattle.asn_rules.specs.Nodes.{child_of, the}
use Rattle.asn_tree.specs.declared.constraints.SubtypeElement.{SubtypeElement}
use Rattle.asn_types.specs.Reading.{constraints_of, listed_of, rest_of, set_of, type_of}
use Rattle.asn_types.specs.Sets.{alphabet_with, contained_with, multiple_types_with, single_type_with, size_with}

-- WITH COMPONENT (X.680 51.8.5)
abbrev pub single_type_of : List ℕ → Node → Option SubtypeElement
single_type_of text n = single_type_with (the (child_of n CONSTRAINT) (constraints_of text))

-- WITH COMPONENTS (X.680 51.8.6)
abbrev pub multiple_types_of : List ℕ → Node → Option SubtypeElement
multiple_types_of text n = multiple_types_with n (the (child_of n MEMBER_LIST) (listed_of text))

-- SIZE (X.680 51.5)
abbrev pub size_of : List ℕ → Node → Option SubtypeElement
size_of text n = size_with (the (child_of n ELEMENT_SET) (set_of text))

-- FROM (X.680 51.7)
abbrev pub alphabet_of : List ℕ → Node → Option SubtypeElement
alphabet_of text n = alphabet_with (the (child_of n SET_REST) (rest_of text))

-- the values of another type (X.680 51.3)
abbrev pub contained_of : List ℕ → Node → Option SubtypeElement
contained_of text n = contained_with n (the (child_of n ASN1_TYPE) (type_of text))
