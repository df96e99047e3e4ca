-- What the readers of types ask of the table of the whole of ASN.1: computed from its rows.
use Rattle.std.proofs.Common.{◌≡◌, true, None, refl}
use Rattle.std.specs.Prelude.{nat_eq, ◌||◌}
use Rattle.asn_rules.specs.Whole.{whole_rules}
use Rattle.asn_rules.specs.LexicalRules.{lexical_rules_before}
use Rattle.asn_rules.specs.ValueRules.{value_rules_before}
use Rattle.asn_rules.specs.TypeRules.{type_rules_before}
use Rattle.asn_rules.specs.ConstraintRules.{constraint_rules_before}
use Rattle.asn_rules.specs.ObjectRules.{object_rules_before}
use Rattle.asn_rules.specs.HeaderRules.{header_rules_before}
use Rattle.asn_rules.specs.DefinitionRules.{definition_rules_before}
use Rattle.asn_rules.specs.declared.names.TheConstants.{ADDITION_LIST, ASN1_TYPE, CHOICE, CHOICE_OPTION, CLASS_NAME, COMPONENT_LIST, COMPONENT_PATH, DEFAULT, ELEMENT, ELSEWHERE_DECLARED_TYPE, ENUMERAL_LIST, ENUMERATED, IDENTIFIER, INFORMATION_OBJECT_FIELD_REFERENCE, INSTANCE_OF, OPTIONAL_MARKER, OPTION_ADDITIONS, OPTION_LIST, SEQUENCE, SEQUENCE_COMPONENT, SEQUENCE_OF, SEQUENCE_OR_SET_MEMBER, SET, SET_OF, STRUCT_BODY, TITLE_CASE_IDENTIFIER, VALUE_PATH}
use Rattle.asn_rules.proofs.Children.{asks, asks_more, counts}
use Rattle.asn_read_pieces.proofs.Firsts.{begins}
use Rattle.asn_types.specs.Types.{is_type}

-- a type begins with a node of one of the forms of types
pub type_begins : begins is_type whole_rules ASN1_TYPE ≡ true
unfolding whole_rules lexical_rules_before value_rules_before type_rules_before constraint_rules_before object_rules_before header_rules_before definition_rules_before
type_begins = refl

pub field_reference_asks_class : asks whole_rules INFORMATION_OBJECT_FIELD_REFERENCE CLASS_NAME ≡ true
unfolding whole_rules lexical_rules_before value_rules_before type_rules_before constraint_rules_before object_rules_before header_rules_before definition_rules_before
field_reference_asks_class = refl

pub instance_of_asks_class : asks whole_rules INSTANCE_OF CLASS_NAME ≡ true
unfolding whole_rules lexical_rules_before value_rules_before type_rules_before constraint_rules_before object_rules_before header_rules_before definition_rules_before
instance_of_asks_class = refl

pub elsewhere_asks_path : asks whole_rules ELSEWHERE_DECLARED_TYPE VALUE_PATH ≡ true
unfolding whole_rules lexical_rules_before value_rules_before type_rules_before constraint_rules_before object_rules_before header_rules_before definition_rules_before
elsewhere_asks_path = refl

pub elsewhere_asks_name : asks whole_rules ELSEWHERE_DECLARED_TYPE TITLE_CASE_IDENTIFIER ≡ true
unfolding whole_rules lexical_rules_before value_rules_before type_rules_before constraint_rules_before object_rules_before header_rules_before definition_rules_before
elsewhere_asks_name = refl

pub element_asks_type : asks whole_rules ELEMENT ASN1_TYPE ≡ true
unfolding whole_rules lexical_rules_before value_rules_before type_rules_before constraint_rules_before object_rules_before header_rules_before definition_rules_before
element_asks_type = refl

pub sequence_of_asks_element : asks whole_rules SEQUENCE_OF ELEMENT ≡ true
unfolding whole_rules lexical_rules_before value_rules_before type_rules_before constraint_rules_before object_rules_before header_rules_before definition_rules_before
sequence_of_asks_element = refl

pub set_of_asks_element : asks whole_rules SET_OF ELEMENT ≡ true
unfolding whole_rules lexical_rules_before value_rules_before type_rules_before constraint_rules_before object_rules_before header_rules_before definition_rules_before
set_of_asks_element = refl

pub sequence_asks_body : asks whole_rules SEQUENCE STRUCT_BODY ≡ true
unfolding whole_rules lexical_rules_before value_rules_before type_rules_before constraint_rules_before object_rules_before header_rules_before definition_rules_before
sequence_asks_body = refl

pub set_asks_body : asks whole_rules SET STRUCT_BODY ≡ true
unfolding whole_rules lexical_rules_before value_rules_before type_rules_before constraint_rules_before object_rules_before header_rules_before definition_rules_before
set_asks_body = refl

pub body_asks_components : asks whole_rules STRUCT_BODY COMPONENT_LIST ≡ true
unfolding whole_rules lexical_rules_before value_rules_before type_rules_before constraint_rules_before object_rules_before header_rules_before definition_rules_before
body_asks_components = refl

pub body_asks_additions : asks whole_rules STRUCT_BODY ADDITION_LIST ≡ true
unfolding whole_rules lexical_rules_before value_rules_before type_rules_before constraint_rules_before object_rules_before header_rules_before definition_rules_before
body_asks_additions = refl

pub member_asks_type : asks whole_rules SEQUENCE_OR_SET_MEMBER ASN1_TYPE ≡ true
unfolding whole_rules lexical_rules_before value_rules_before type_rules_before constraint_rules_before object_rules_before header_rules_before definition_rules_before
member_asks_type = refl

pub member_asks_marker : asks whole_rules SEQUENCE_OR_SET_MEMBER OPTIONAL_MARKER ≡ true
unfolding whole_rules lexical_rules_before value_rules_before type_rules_before constraint_rules_before object_rules_before header_rules_before definition_rules_before
member_asks_marker = refl

pub member_asks_default : asks whole_rules SEQUENCE_OR_SET_MEMBER DEFAULT ≡ true
unfolding whole_rules lexical_rules_before value_rules_before type_rules_before constraint_rules_before object_rules_before header_rules_before definition_rules_before
member_asks_default = refl

pub option_asks_name : asks whole_rules CHOICE_OPTION IDENTIFIER ≡ true
unfolding whole_rules lexical_rules_before value_rules_before type_rules_before constraint_rules_before object_rules_before header_rules_before definition_rules_before
option_asks_name = refl

pub option_asks_type : asks whole_rules CHOICE_OPTION ASN1_TYPE ≡ true
unfolding whole_rules lexical_rules_before value_rules_before type_rules_before constraint_rules_before object_rules_before header_rules_before definition_rules_before
option_asks_type = refl

pub choice_asks_options : asks whole_rules CHOICE OPTION_LIST ≡ true
unfolding whole_rules lexical_rules_before value_rules_before type_rules_before constraint_rules_before object_rules_before header_rules_before definition_rules_before
choice_asks_options = refl

pub choice_asks_additions : asks whole_rules CHOICE OPTION_ADDITIONS ≡ true
unfolding whole_rules lexical_rules_before value_rules_before type_rules_before constraint_rules_before object_rules_before header_rules_before definition_rules_before
choice_asks_additions = refl

-- a component is a member, or takes others over
pub component_asks_one : counts whole_rules SEQUENCE_COMPONENT (λ q. nat_eq q SEQUENCE_OR_SET_MEMBER || nat_eq q COMPONENT_PATH) 1 None ≡ true
unfolding whole_rules lexical_rules_before value_rules_before type_rules_before constraint_rules_before object_rules_before header_rules_before definition_rules_before
component_asks_one = refl

-- an enumeration has two lists of items
pub enumerated_asks_root : asks_more whole_rules ENUMERATED ENUMERAL_LIST 0 ≡ true
unfolding whole_rules lexical_rules_before value_rules_before type_rules_before constraint_rules_before object_rules_before header_rules_before definition_rules_before
enumerated_asks_root = refl

pub enumerated_asks_additions : asks_more whole_rules ENUMERATED ENUMERAL_LIST 1 ≡ true
unfolding whole_rules lexical_rules_before value_rules_before type_rules_before constraint_rules_before object_rules_before header_rules_before definition_rules_before
enumerated_asks_additions = refl
