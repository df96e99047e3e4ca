-- What the readers of constraints ask of the table of the whole of ASN.1: computed from its rows.
use Rattle.std.proofs.Common.{◌≡◌, true, Some, None, refl}
use Rattle.std.specs.Prelude.{nat_eq, ◌||◌}
use Rattle.asn_rules.specs.Whole.{whole_rules}
use Rattle.asn_rules.specs.LexicalRules.{lexical_rules_before}
use Rattle.asn_rules.specs.ValueRules.{value_rules_before}
use Rattle.asn_rules.specs.TypeRules.{type_rules_before}
use Rattle.asn_rules.specs.ConstraintRules.{constraint_rules_before}
use Rattle.asn_rules.specs.ObjectRules.{object_rules_before}
use Rattle.asn_rules.specs.HeaderRules.{header_rules_before}
use Rattle.asn_rules.specs.DefinitionRules.{definition_rules_before}
use Rattle.asn_rules.specs.declared.names.TheConstants.{ASN1_TYPE, ASN1_VALUE, CONSTRAINT, CONSTRAINT_ITEM, CONTAINED_SUBTYPE, CONTENT_BODY, CONTENT_CONSTRAINT, DUMMY, ELEMENT_SET, IDENTIFIER, INFORMATION_OBJECT, MEMBER_LIST, MULTIPLE_TYPE_CONSTRAINTS, OBJECT_SET, PARAMETER, PARAMETERS, PERMITTED_ALPHABET_CONSTRAINT, RANGE_BODY, RANGE_HIGH, RANGE_LOW, SET_OPERATION, SET_OPERATOR, SET_REST, SINGLE_CONSTRAINT, SINGLE_TYPE_CONSTRAINT, SINGLE_VALUE, SIZE_CONSTRAINT, SUBSET_MEMBER, SUBTYPE_ELEMENT, TABLE_CONSTRAINT, VALUE_IDENTIFIER, VALUE_RANGE}
use Rattle.asn_rules.proofs.Children.{asks, counts}
use Rattle.asn_read_pieces.proofs.Firsts.{begins}
use Rattle.asn_types.specs.Sets.{is_element}

pub single_type_asks_constraints : asks whole_rules SINGLE_TYPE_CONSTRAINT CONSTRAINT ≡ true
unfolding whole_rules lexical_rules_before value_rules_before type_rules_before constraint_rules_before object_rules_before header_rules_before definition_rules_before
single_type_asks_constraints = refl

pub multiple_types_ask_list : asks whole_rules MULTIPLE_TYPE_CONSTRAINTS MEMBER_LIST ≡ true
unfolding whole_rules lexical_rules_before value_rules_before type_rules_before constraint_rules_before object_rules_before header_rules_before definition_rules_before
multiple_types_ask_list = refl

pub listed_one_asks_name : asks whole_rules SUBSET_MEMBER IDENTIFIER ≡ true
unfolding whole_rules lexical_rules_before value_rules_before type_rules_before constraint_rules_before object_rules_before header_rules_before definition_rules_before
listed_one_asks_name = refl

pub size_asks_set : asks whole_rules SIZE_CONSTRAINT ELEMENT_SET ≡ true
unfolding whole_rules lexical_rules_before value_rules_before type_rules_before constraint_rules_before object_rules_before header_rules_before definition_rules_before
size_asks_set = refl

pub alphabet_asks_rest : asks whole_rules PERMITTED_ALPHABET_CONSTRAINT SET_REST ≡ true
unfolding whole_rules lexical_rules_before value_rules_before type_rules_before constraint_rules_before object_rules_before header_rules_before definition_rules_before
alphabet_asks_rest = refl

pub contained_asks_type : asks whole_rules CONTAINED_SUBTYPE ASN1_TYPE ≡ true
unfolding whole_rules lexical_rules_before value_rules_before type_rules_before constraint_rules_before object_rules_before header_rules_before definition_rules_before
contained_asks_type = refl

pub range_asks_ends : asks whole_rules VALUE_RANGE RANGE_BODY ≡ true
unfolding whole_rules lexical_rules_before value_rules_before type_rules_before constraint_rules_before object_rules_before header_rules_before definition_rules_before
range_asks_ends = refl

pub ends_ask_low : asks whole_rules RANGE_BODY RANGE_LOW ≡ true
unfolding whole_rules lexical_rules_before value_rules_before type_rules_before constraint_rules_before object_rules_before header_rules_before definition_rules_before
ends_ask_low = refl

pub ends_ask_high : asks whole_rules RANGE_BODY RANGE_HIGH ≡ true
unfolding whole_rules lexical_rules_before value_rules_before type_rules_before constraint_rules_before object_rules_before header_rules_before definition_rules_before
ends_ask_high = refl

pub single_value_asks_value : asks whole_rules SINGLE_VALUE ASN1_VALUE ≡ true
unfolding whole_rules lexical_rules_before value_rules_before type_rules_before constraint_rules_before object_rules_before header_rules_before definition_rules_before
single_value_asks_value = refl

pub set_asks_rest : asks whole_rules ELEMENT_SET SET_REST ≡ true
unfolding whole_rules lexical_rules_before value_rules_before type_rules_before constraint_rules_before object_rules_before header_rules_before definition_rules_before
set_asks_rest = refl

pub operation_asks_base : asks whole_rules SET_OPERATION SUBTYPE_ELEMENT ≡ true
unfolding whole_rules lexical_rules_before value_rules_before type_rules_before constraint_rules_before object_rules_before header_rules_before definition_rules_before
operation_asks_base = refl

pub operation_asks_operator : asks whole_rules SET_OPERATION SET_OPERATOR ≡ true
unfolding whole_rules lexical_rules_before value_rules_before type_rules_before constraint_rules_before object_rules_before header_rules_before definition_rules_before
operation_asks_operator = refl

pub operation_asks_rest : asks whole_rules SET_OPERATION SET_REST ≡ true
unfolding whole_rules lexical_rules_before value_rules_before type_rules_before constraint_rules_before object_rules_before header_rules_before definition_rules_before
operation_asks_rest = refl

pub content_asks_body : asks whole_rules CONTENT_CONSTRAINT CONTENT_BODY ≡ true
unfolding whole_rules lexical_rules_before value_rules_before type_rules_before constraint_rules_before object_rules_before header_rules_before definition_rules_before
content_asks_body = refl

pub table_asks_set : asks whole_rules TABLE_CONSTRAINT OBJECT_SET ≡ true
unfolding whole_rules lexical_rules_before value_rules_before type_rules_before constraint_rules_before object_rules_before header_rules_before definition_rules_before
table_asks_set = refl

-- a constraint in parentheses, a SIZE, or arguments
pub item_asks_one : counts whole_rules CONSTRAINT_ITEM (λ q. nat_eq q SINGLE_CONSTRAINT || (nat_eq q SIZE_CONSTRAINT || nat_eq q PARAMETERS)) 1 None ≡ true
unfolding whole_rules lexical_rules_before value_rules_before type_rules_before constraint_rules_before object_rules_before header_rules_before definition_rules_before
item_asks_one = refl

-- contents, a table, or a set of values
pub single_asks_one : counts whole_rules SINGLE_CONSTRAINT (λ q. nat_eq q CONTENT_CONSTRAINT || (nat_eq q TABLE_CONSTRAINT || nat_eq q ELEMENT_SET)) 1 None ≡ true
unfolding whole_rules lexical_rules_before value_rules_before type_rules_before constraint_rules_before object_rules_before header_rules_before definition_rules_before
single_asks_one = refl

-- a type, or the rules of its encoding
pub body_asks_one : counts whole_rules CONTENT_BODY (λ q. nat_eq q ASN1_TYPE || nat_eq q ASN1_VALUE) 1 None ≡ true
unfolding whole_rules lexical_rules_before value_rules_before type_rules_before constraint_rules_before object_rules_before header_rules_before definition_rules_before
body_asks_one = refl

-- an operation, or an element
pub rest_asks_one : counts whole_rules SET_REST (λ q. nat_eq q SET_OPERATION || nat_eq q SUBTYPE_ELEMENT) 1 None ≡ true
unfolding whole_rules lexical_rules_before value_rules_before type_rules_before constraint_rules_before object_rules_before header_rules_before definition_rules_before
rest_asks_one = refl

-- a value, a type, an object set, or an object
pub parameter_asks_one : counts whole_rules PARAMETER (λ q. nat_eq q ASN1_VALUE || (nat_eq q ASN1_TYPE || (nat_eq q OBJECT_SET || nat_eq q INFORMATION_OBJECT))) 1 None ≡ true
unfolding whole_rules lexical_rules_before value_rules_before type_rules_before constraint_rules_before object_rules_before header_rules_before definition_rules_before
parameter_asks_one = refl

-- a name in small letters, or another
pub dummy_asks_one : counts whole_rules DUMMY (λ q. nat_eq q VALUE_IDENTIFIER || nat_eq q IDENTIFIER) 1 None ≡ true
unfolding whole_rules lexical_rules_before value_rules_before type_rules_before constraint_rules_before object_rules_before header_rules_before definition_rules_before
dummy_asks_one = refl

-- what contents are told by holds no contents
pub body_asks_no_body : counts whole_rules CONTENT_BODY (λ q. nat_eq q CONTENT_BODY) 0 (Some 0) ≡ true
unfolding whole_rules lexical_rules_before value_rules_before type_rules_before constraint_rules_before object_rules_before header_rules_before definition_rules_before
body_asks_no_body = refl

-- an element begins with one of the forms of elements
pub subtype_begins : begins is_element whole_rules SUBTYPE_ELEMENT ≡ true
unfolding whole_rules lexical_rules_before value_rules_before type_rules_before constraint_rules_before object_rules_before header_rules_before definition_rules_before
subtype_begins = refl
