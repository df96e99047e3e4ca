-- The children that readers of types ask for are there.
use Rattle.std.proofs.Common.{◌≡◌, ℕ, List, Some, None, arith}
use Rattle.std.specs.Prelude.{nat_eq, ◌||◌, IsSome}
use Rattle.asn_rules.specs.Whole.{whole_rules}
use Rattle.asn_rules.specs.Children.{Is}
use Rattle.asn_rules.specs.Nodes.{child_of, first_child_of, nth_child_of}
use Rattle.asn_rules.specs.declared.names.TheConstants.{ADDITION_LIST, ASN1_TYPE, CHOICE, CHOICE_OPTION, CLASS_NAME, COMPONENT_LIST, COMPONENT_PATH, DEFAULT, ELEMENT, ELSEWHERE_DECLARED_TYPE, ENUMERAL_LIST, ENUMERATED, IDENTIFIER, INFORMATION_OBJECT_FIELD_REFERENCE, INSTANCE_OF, OPTIONAL_MARKER, OPTION_ADDITIONS, OPTION_LIST, SEQUENCE, SEQUENCE_COMPONENT, SEQUENCE_OF, SEQUENCE_OR_SET_MEMBER, SET, SET_OF, STRUCT_BODY, TITLE_CASE_IDENTIFIER, VALUE_PATH}
use Rattle.asn_rules.specs.declared.node.Node.{Node}
use Rattle.asn_rules.specs.declared.node.Node.TheViews.{out-Node}
use Rattle.asn_rules.proofs.Children.{bounds, first_stands, has_child, has_nth}
use Rattle.asn_read_nodes.proofs.Views.{some_among, without}
use Rattle.asn_read_pieces.proofs.Firsts.{first_passes, has_first}
use Rattle.asn_types.proofs.AskedTypes as asked
use Rattle.asn_types.specs.Types.{IsType, is_type}

-- a type has a first child, which is of one of the rules of forms
pub type_has_first : (text : List ℕ) (n : Node) → Is whole_rules text ASN1_TYPE n → IsSome (first_child_of n)
type_has_first text n is = has_first is_type text ASN1_TYPE n is asked.type_begins

pub first_is_type : (text : List ℕ) (n t : Node) → Is whole_rules text ASN1_TYPE n → first_child_of n ≡ Some t → IsType text t
first_is_type text n t is e = record { stands_by = first_stands whole_rules text n t e is.stands_by; is_one = first_passes is_type text ASN1_TYPE n t is asked.type_begins e }

pub field_reference_has_class : (text : List ℕ) (n : Node) → Is whole_rules text INFORMATION_OBJECT_FIELD_REFERENCE n → IsSome (child_of n CLASS_NAME)
field_reference_has_class text n is = has_child whole_rules text INFORMATION_OBJECT_FIELD_REFERENCE CLASS_NAME n is asked.field_reference_asks_class

pub instance_of_has_class : (text : List ℕ) (n : Node) → Is whole_rules text INSTANCE_OF n → IsSome (child_of n CLASS_NAME)
instance_of_has_class text n is = has_child whole_rules text INSTANCE_OF CLASS_NAME n is asked.instance_of_asks_class

pub elsewhere_has_path : (text : List ℕ) (n : Node) → Is whole_rules text ELSEWHERE_DECLARED_TYPE n → IsSome (child_of n VALUE_PATH)
elsewhere_has_path text n is = has_child whole_rules text ELSEWHERE_DECLARED_TYPE VALUE_PATH n is asked.elsewhere_asks_path

pub elsewhere_has_name : (text : List ℕ) (n : Node) → Is whole_rules text ELSEWHERE_DECLARED_TYPE n → IsSome (child_of n TITLE_CASE_IDENTIFIER)
elsewhere_has_name text n is = has_child whole_rules text ELSEWHERE_DECLARED_TYPE TITLE_CASE_IDENTIFIER n is asked.elsewhere_asks_name

pub element_has_type : (text : List ℕ) (n : Node) → Is whole_rules text ELEMENT n → IsSome (child_of n ASN1_TYPE)
element_has_type text n is = has_child whole_rules text ELEMENT ASN1_TYPE n is asked.element_asks_type

pub sequence_of_has_element : (text : List ℕ) (n : Node) → Is whole_rules text SEQUENCE_OF n → IsSome (child_of n ELEMENT)
sequence_of_has_element text n is = has_child whole_rules text SEQUENCE_OF ELEMENT n is asked.sequence_of_asks_element

pub set_of_has_element : (text : List ℕ) (n : Node) → Is whole_rules text SET_OF n → IsSome (child_of n ELEMENT)
set_of_has_element text n is = has_child whole_rules text SET_OF ELEMENT n is asked.set_of_asks_element

pub sequence_has_body : (text : List ℕ) (n : Node) → Is whole_rules text SEQUENCE n → IsSome (child_of n STRUCT_BODY)
sequence_has_body text n is = has_child whole_rules text SEQUENCE STRUCT_BODY n is asked.sequence_asks_body

pub set_has_body : (text : List ℕ) (n : Node) → Is whole_rules text SET n → IsSome (child_of n STRUCT_BODY)
set_has_body text n is = has_child whole_rules text SET STRUCT_BODY n is asked.set_asks_body

pub body_has_components : (text : List ℕ) (n : Node) → Is whole_rules text STRUCT_BODY n → IsSome (child_of n COMPONENT_LIST)
body_has_components text n is = has_child whole_rules text STRUCT_BODY COMPONENT_LIST n is asked.body_asks_components

pub body_has_additions : (text : List ℕ) (n : Node) → Is whole_rules text STRUCT_BODY n → IsSome (child_of n ADDITION_LIST)
body_has_additions text n is = has_child whole_rules text STRUCT_BODY ADDITION_LIST n is asked.body_asks_additions

pub member_has_type : (text : List ℕ) (n : Node) → Is whole_rules text SEQUENCE_OR_SET_MEMBER n → IsSome (child_of n ASN1_TYPE)
member_has_type text n is = has_child whole_rules text SEQUENCE_OR_SET_MEMBER ASN1_TYPE n is asked.member_asks_type

pub member_has_marker : (text : List ℕ) (n : Node) → Is whole_rules text SEQUENCE_OR_SET_MEMBER n → IsSome (child_of n OPTIONAL_MARKER)
member_has_marker text n is = has_child whole_rules text SEQUENCE_OR_SET_MEMBER OPTIONAL_MARKER n is asked.member_asks_marker

pub member_has_default : (text : List ℕ) (n : Node) → Is whole_rules text SEQUENCE_OR_SET_MEMBER n → IsSome (child_of n DEFAULT)
member_has_default text n is = has_child whole_rules text SEQUENCE_OR_SET_MEMBER DEFAULT n is asked.member_asks_default

pub option_has_name : (text : List ℕ) (n : Node) → Is whole_rules text CHOICE_OPTION n → IsSome (child_of n IDENTIFIER)
option_has_name text n is = has_child whole_rules text CHOICE_OPTION IDENTIFIER n is asked.option_asks_name

pub option_has_type : (text : List ℕ) (n : Node) → Is whole_rules text CHOICE_OPTION n → IsSome (child_of n ASN1_TYPE)
option_has_type text n is = has_child whole_rules text CHOICE_OPTION ASN1_TYPE n is asked.option_asks_type

pub choice_has_options : (text : List ℕ) (n : Node) → Is whole_rules text CHOICE n → IsSome (child_of n OPTION_LIST)
choice_has_options text n is = has_child whole_rules text CHOICE OPTION_LIST n is asked.choice_asks_options

pub choice_has_additions : (text : List ℕ) (n : Node) → Is whole_rules text CHOICE n → IsSome (child_of n OPTION_ADDITIONS)
choice_has_additions text n is = has_child whole_rules text CHOICE OPTION_ADDITIONS n is asked.choice_asks_additions

-- a component that is no member takes others over
pub component_has_path : (text : List ℕ) (n : Node) → Is whole_rules text SEQUENCE_COMPONENT n → child_of n SEQUENCE_OR_SET_MEMBER ≡ None → IsSome (child_of n COMPONENT_PATH)
component_has_path text n is e =
    let one = (bounds whole_rules text SEQUENCE_COMPONENT (λ q. nat_eq q SEQUENCE_OR_SET_MEMBER || nat_eq q COMPONENT_PATH) 1 None n is asked.component_asks_one).0 in
    let first = without SEQUENCE_OR_SET_MEMBER (λ q. nat_eq q COMPONENT_PATH) (out-Node n).children e in
    some_among COMPONENT_PATH (out-Node n).children (omega (arith, one, first))

pub enumerated_has_root : (text : List ℕ) (n : Node) → Is whole_rules text ENUMERATED n → IsSome (nth_child_of n ENUMERAL_LIST 0)
enumerated_has_root text n is = has_nth whole_rules text ENUMERATED ENUMERAL_LIST 0 n is asked.enumerated_asks_root

pub enumerated_has_additions : (text : List ℕ) (n : Node) → Is whole_rules text ENUMERATED n → IsSome (nth_child_of n ENUMERAL_LIST 1)
enumerated_has_additions text n is = has_nth whole_rules text ENUMERATED ENUMERAL_LIST 1 n is asked.enumerated_asks_additions
