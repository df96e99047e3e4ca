-- The forms of types by their names (X.680 17), each by what its children are.
use Rattle.std.specs.Prelude.{ℕ, List, [], Option, Some}
use Rattle.asn_rules.specs.declared.names.TheConstants.{CONSTRAINT, ELEMENT, OPTION_ADDITIONS, OPTION_LIST, STRUCT_BODY}
use Rattle.asn_rules.specs.declared.node.Node.{Node}
use Rattle.asn_rules.specs.Nodes.{at_child, child_of, the}
use Rattle.asn_tree_kinds.specs.declared.objects.InformationObjectFieldReferenceOver.{InformationObjectFieldReferenceOver}
use Rattle.asn_tree.specs.declared.constraints.Constraint.{Constraint}
use Rattle.asn_tree.specs.declared.types.ASN1Type.{ASN1Type}
use Rattle.asn_types.specs.Choices.{choice_with}
use Rattle.asn_types.specs.Enumerations.{enumerated_with}
use Rattle.asn_types.specs.Reading.{body_of, constraints_of, element_of, options_of}
use Rattle.asn_types.specs.Types.{Parts, bit_string_with, boolean_with, character_string_with, elsewhere_with, field_reference_with, field_type_with, generalized_time_with, instance_of_with, integer_with, object_identifier_with, octet_string_with, real_with, selection_with, sequence_of_with, sequence_with, set_of_with, set_with, time_with, utc_time_with}

-- the constraints behind a type, or behind the type of a member or option; none where none stand
abbrev pub constraints_behind : List ℕ → Node → Option (List Constraint)
constraints_behind text n = at_child (child_of n CONSTRAINT) (Some []) (constraints_of text)

abbrev pub parts_of : List ℕ → Node → Parts
parts_of text n =
    record {
      constraints = constraints_behind text n;
      element = the (child_of n ELEMENT) (element_of text);
      body = the (child_of n STRUCT_BODY) (body_of text);
      options = the (child_of n OPTION_LIST) (options_of text);
      additions = the (child_of n OPTION_ADDITIONS) (options_of text);
    }

-- BOOLEAN (X.680 18.1)
abbrev pub boolean_type_of : List ℕ → Node → Option ASN1Type
boolean_type_of text n = boolean_with (constraints_behind text n)

-- REAL (X.680 21.1)
abbrev pub real_type_of : List ℕ → Node → Option ASN1Type
real_type_of text n = real_with (constraints_behind text n)

-- OCTET STRING (X.680 23.1)
abbrev pub octet_string_type_of : List ℕ → Node → Option ASN1Type
octet_string_type_of text n = octet_string_with (constraints_behind text n)

-- OBJECT IDENTIFIER or RELATIVE-OID (X.680 32.1, 33.1)
abbrev pub object_identifier_type_of : List ℕ → Node → Option ASN1Type
object_identifier_type_of text n = object_identifier_with (constraints_behind text n)

-- TIME (X.680 38.1)
abbrev pub time_type_of : List ℕ → Node → Option ASN1Type
time_type_of text n = time_with (constraints_behind text n)

-- GeneralizedTime (X.680 46.1)
abbrev pub generalized_time_type_of : List ℕ → Node → Option ASN1Type
generalized_time_type_of text n = generalized_time_with (constraints_behind text n)

-- UTCTime (X.680 47.1)
abbrev pub utc_time_type_of : List ℕ → Node → Option ASN1Type
utc_time_type_of text n = utc_time_with (constraints_behind text n)

-- INTEGER (X.680 19.1)
abbrev pub integer_type_of : List ℕ → Node → Option ASN1Type
integer_type_of text n = integer_with text n (constraints_behind text n)

-- BIT STRING (X.680 22.1)
abbrev pub bit_string_type_of : List ℕ → Node → Option ASN1Type
bit_string_type_of text n = bit_string_with text n (constraints_behind text n)

-- a character string type (X.680 41.1)
abbrev pub character_string_type_of : List ℕ → Node → Option ASN1Type
character_string_type_of text n = character_string_with n (constraints_behind text n)

-- INSTANCE OF a class (X.681 Annex C)
abbrev pub instance_of_type_of : List ℕ → Node → Option ASN1Type
instance_of_type_of text n = instance_of_with text n (constraints_behind text n)

-- a type reference (X.680 14.1, X.681 15)
abbrev pub elsewhere_type_of : List ℕ → Node → Option ASN1Type
elsewhere_type_of text n = elsewhere_with text n (constraints_behind text n)

-- the type of a class's field (X.681 14.1)
abbrev pub field_type_of : List ℕ → Node → Option ASN1Type
field_type_of text n = field_type_with text n (constraints_behind text n)

abbrev pub field_reference_of : List ℕ → Node → Option (InformationObjectFieldReferenceOver Constraint)
field_reference_of text n = field_reference_with text n (constraints_behind text n)

-- a selection type (X.680 30.1)
abbrev pub selection_type_of : List ℕ → Node → Option ASN1Type
selection_type_of text n = selection_with text n

-- ENUMERATED (X.680 20.1)
abbrev pub enumerated_type_of : List ℕ → Node → Option ASN1Type
enumerated_type_of text n = enumerated_with text n

-- CHOICE (X.680 29.1)
abbrev pub choice_type_of : List ℕ → Node → Option ASN1Type
choice_type_of text n = choice_with n (the (child_of n OPTION_LIST) (options_of text)) (the (child_of n OPTION_ADDITIONS) (options_of text))

-- SEQUENCE OF (X.680 26.1)
abbrev pub sequence_of_type_of : List ℕ → Node → Option ASN1Type
sequence_of_type_of text n = sequence_of_with (the (child_of n ELEMENT) (element_of text)) (constraints_behind text n)

-- SET OF (X.680 28.1)
abbrev pub set_of_type_of : List ℕ → Node → Option ASN1Type
set_of_type_of text n = set_of_with (the (child_of n ELEMENT) (element_of text)) (constraints_behind text n)

-- SEQUENCE (X.680 25.1)
abbrev pub sequence_type_of : List ℕ → Node → Option ASN1Type
sequence_type_of text n = sequence_with (the (child_of n STRUCT_BODY) (body_of text)) (constraints_behind text n)

-- SET (X.680 27.1)
abbrev pub set_type_of : List ℕ → Node → Option ASN1Type
set_type_of text n = set_with (the (child_of n STRUCT_BODY) (body_of text)) (constraints_behind text n)
