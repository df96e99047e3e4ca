-- The children that the readers of constraints ask for are there.
use Rattle.std.proofs.Common.{◌≡◌, ℕ, ◌+◌, ◌≤◌, List, [], ◌∷◌, Bool, true, false, Some, None, refl, sym, subst, arith}
use Rattle.std.specs.Prelude.{nat_eq, ◌||◌, cond, IsSome}
use Rattle.asn_rules.specs.Whole.{whole_rules}
use Rattle.asn_rules.specs.Children.{Is}
use Rattle.asn_rules.specs.Nodes.{child_among, child_of, first_child_of}
use Rattle.asn_rules.specs.declared.names.TheConstants.{ASN1_TYPE, ASN1_VALUE, CONSTRAINT, CONSTRAINT_ITEM, CONTAINED_SUBTYPE, CONTENT_BODY, CONTENT_CONSTRAINT, DUMMY, ELEMENT_SET, IDENTIFIER, INFORMATION_OBJECT, MEMBER_LIST, MULTIPLE_TYPE_CONSTRAINTS, OBJECT_SET, PARAMETER, PARAMETERS, PERMITTED_ALPHABET_CONSTRAINT, RANGE_BODY, RANGE_HIGH, RANGE_LOW, SET_OPERATION, SET_OPERATOR, SET_REST, SINGLE_CONSTRAINT, SINGLE_TYPE_CONSTRAINT, SINGLE_VALUE, SIZE_CONSTRAINT, SUBSET_MEMBER, SUBTYPE_ELEMENT, TABLE_CONSTRAINT, VALUE_IDENTIFIER, VALUE_RANGE}
use Rattle.asn_rules.specs.declared.node.Node.{Node}
use Rattle.asn_rules.specs.declared.node.Node.TheViews.{out-Node}
use Rattle.asn_rules.proofs.Children.{bounds, first_stands, has_child, one_if, times}
use Rattle.asn_read_nodes.proofs.Views.{some_among, without}
use Rattle.asn_read_pieces.proofs.Firsts.{first_passes, has_first}
use Rattle.asn_types.proofs.AskedConstraints as asked
use Rattle.asn_types.specs.Sets.{IsElement, is_element}

pub single_type_has_constraints : (text : List ℕ) (n : Node) → Is whole_rules text SINGLE_TYPE_CONSTRAINT n → IsSome (child_of n CONSTRAINT)
single_type_has_constraints text n is = has_child whole_rules text SINGLE_TYPE_CONSTRAINT CONSTRAINT n is asked.single_type_asks_constraints

pub multiple_types_have_list : (text : List ℕ) (n : Node) → Is whole_rules text MULTIPLE_TYPE_CONSTRAINTS n → IsSome (child_of n MEMBER_LIST)
multiple_types_have_list text n is = has_child whole_rules text MULTIPLE_TYPE_CONSTRAINTS MEMBER_LIST n is asked.multiple_types_ask_list

pub listed_one_has_name : (text : List ℕ) (n : Node) → Is whole_rules text SUBSET_MEMBER n → IsSome (child_of n IDENTIFIER)
listed_one_has_name text n is = has_child whole_rules text SUBSET_MEMBER IDENTIFIER n is asked.listed_one_asks_name

pub size_has_set : (text : List ℕ) (n : Node) → Is whole_rules text SIZE_CONSTRAINT n → IsSome (child_of n ELEMENT_SET)
size_has_set text n is = has_child whole_rules text SIZE_CONSTRAINT ELEMENT_SET n is asked.size_asks_set

pub alphabet_has_rest : (text : List ℕ) (n : Node) → Is whole_rules text PERMITTED_ALPHABET_CONSTRAINT n → IsSome (child_of n SET_REST)
alphabet_has_rest text n is = has_child whole_rules text PERMITTED_ALPHABET_CONSTRAINT SET_REST n is asked.alphabet_asks_rest

pub contained_has_type : (text : List ℕ) (n : Node) → Is whole_rules text CONTAINED_SUBTYPE n → IsSome (child_of n ASN1_TYPE)
contained_has_type text n is = has_child whole_rules text CONTAINED_SUBTYPE ASN1_TYPE n is asked.contained_asks_type

pub range_has_ends : (text : List ℕ) (n : Node) → Is whole_rules text VALUE_RANGE n → IsSome (child_of n RANGE_BODY)
range_has_ends text n is = has_child whole_rules text VALUE_RANGE RANGE_BODY n is asked.range_asks_ends

pub ends_have_low : (text : List ℕ) (n : Node) → Is whole_rules text RANGE_BODY n → IsSome (child_of n RANGE_LOW)
ends_have_low text n is = has_child whole_rules text RANGE_BODY RANGE_LOW n is asked.ends_ask_low

pub ends_have_high : (text : List ℕ) (n : Node) → Is whole_rules text RANGE_BODY n → IsSome (child_of n RANGE_HIGH)
ends_have_high text n is = has_child whole_rules text RANGE_BODY RANGE_HIGH n is asked.ends_ask_high

pub single_value_has_value : (text : List ℕ) (n : Node) → Is whole_rules text SINGLE_VALUE n → IsSome (child_of n ASN1_VALUE)
single_value_has_value text n is = has_child whole_rules text SINGLE_VALUE ASN1_VALUE n is asked.single_value_asks_value

pub set_has_rest : (text : List ℕ) (n : Node) → Is whole_rules text ELEMENT_SET n → IsSome (child_of n SET_REST)
set_has_rest text n is = has_child whole_rules text ELEMENT_SET SET_REST n is asked.set_asks_rest

pub operation_has_base : (text : List ℕ) (n : Node) → Is whole_rules text SET_OPERATION n → IsSome (child_of n SUBTYPE_ELEMENT)
operation_has_base text n is = has_child whole_rules text SET_OPERATION SUBTYPE_ELEMENT n is asked.operation_asks_base

pub operation_has_operator : (text : List ℕ) (n : Node) → Is whole_rules text SET_OPERATION n → IsSome (child_of n SET_OPERATOR)
operation_has_operator text n is = has_child whole_rules text SET_OPERATION SET_OPERATOR n is asked.operation_asks_operator

pub operation_has_rest : (text : List ℕ) (n : Node) → Is whole_rules text SET_OPERATION n → IsSome (child_of n SET_REST)
operation_has_rest text n is = has_child whole_rules text SET_OPERATION SET_REST n is asked.operation_asks_rest

pub content_has_body : (text : List ℕ) (n : Node) → Is whole_rules text CONTENT_CONSTRAINT n → IsSome (child_of n CONTENT_BODY)
content_has_body text n is = has_child whole_rules text CONTENT_CONSTRAINT CONTENT_BODY n is asked.content_asks_body

pub table_has_set : (text : List ℕ) (n : Node) → Is whole_rules text TABLE_CONSTRAINT n → IsSome (child_of n OBJECT_SET)
table_has_set text n is = has_child whole_rules text TABLE_CONSTRAINT OBJECT_SET n is asked.table_asks_set

-- a constraint that is neither in parentheses nor a SIZE is a list of arguments
pub item_has_arguments : (text : List ℕ) (n : Node) → Is whole_rules text CONSTRAINT_ITEM n → child_of n SINGLE_CONSTRAINT ≡ None → child_of n SIZE_CONSTRAINT ≡ None → IsSome (child_of n PARAMETERS)
item_has_arguments text n is e f =
    let one = (bounds whole_rules text CONSTRAINT_ITEM (λ q. nat_eq q SINGLE_CONSTRAINT || (nat_eq q SIZE_CONSTRAINT || nat_eq q PARAMETERS)) 1 None n is asked.item_asks_one).0 in
    let first = without SINGLE_CONSTRAINT (λ q. nat_eq q SIZE_CONSTRAINT || nat_eq q PARAMETERS) (out-Node n).children e in
    let second = without SIZE_CONSTRAINT (λ q. nat_eq q PARAMETERS) (out-Node n).children f in
    some_among PARAMETERS (out-Node n).children (omega (arith, one, first, second))

-- a constraint in parentheses that tells no contents and no table tells a set of values
pub single_has_set : (text : List ℕ) (n : Node) → Is whole_rules text SINGLE_CONSTRAINT n → child_of n CONTENT_CONSTRAINT ≡ None → child_of n TABLE_CONSTRAINT ≡ None → IsSome (child_of n ELEMENT_SET)
single_has_set text n is e f =
    let one = (bounds whole_rules text SINGLE_CONSTRAINT (λ q. nat_eq q CONTENT_CONSTRAINT || (nat_eq q TABLE_CONSTRAINT || nat_eq q ELEMENT_SET)) 1 None n is asked.single_asks_one).0 in
    let first = without CONTENT_CONSTRAINT (λ q. nat_eq q TABLE_CONSTRAINT || nat_eq q ELEMENT_SET) (out-Node n).children e in
    let second = without TABLE_CONSTRAINT (λ q. nat_eq q ELEMENT_SET) (out-Node n).children f in
    some_among ELEMENT_SET (out-Node n).children (omega (arith, one, first, second))

-- contents that are of no type are told by their encoding
pub body_has_rules : (text : List ℕ) (n : Node) → Is whole_rules text CONTENT_BODY n → child_of n ASN1_TYPE ≡ None → IsSome (child_of n ASN1_VALUE)
body_has_rules text n is e =
    let one = (bounds whole_rules text CONTENT_BODY (λ q. nat_eq q ASN1_TYPE || nat_eq q ASN1_VALUE) 1 None n is asked.body_asks_one).0 in
    let first = without ASN1_TYPE (λ q. nat_eq q ASN1_VALUE) (out-Node n).children e in
    some_among ASN1_VALUE (out-Node n).children (omega (arith, one, first))

-- what is left of a set and is no operation is an element
pub rest_has_element : (text : List ℕ) (n : Node) → Is whole_rules text SET_REST n → child_of n SET_OPERATION ≡ None → IsSome (child_of n SUBTYPE_ELEMENT)
rest_has_element text n is e =
    let one = (bounds whole_rules text SET_REST (λ q. nat_eq q SET_OPERATION || nat_eq q SUBTYPE_ELEMENT) 1 None n is asked.rest_asks_one).0 in
    let first = without SET_OPERATION (λ q. nat_eq q SUBTYPE_ELEMENT) (out-Node n).children e in
    some_among SUBTYPE_ELEMENT (out-Node n).children (omega (arith, one, first))

-- an argument that is no value, no type and no object set is an object
pub parameter_has_object : (text : List ℕ) (n : Node) → Is whole_rules text PARAMETER n → child_of n ASN1_VALUE ≡ None → child_of n ASN1_TYPE ≡ None → child_of n OBJECT_SET ≡ None → IsSome (child_of n INFORMATION_OBJECT)
parameter_has_object text n is e f g =
    let one = (bounds whole_rules text PARAMETER (λ q. nat_eq q ASN1_VALUE || (nat_eq q ASN1_TYPE || (nat_eq q OBJECT_SET || nat_eq q INFORMATION_OBJECT))) 1 None n is asked.parameter_asks_one).0 in
    let first = without ASN1_VALUE (λ q. nat_eq q ASN1_TYPE || (nat_eq q OBJECT_SET || nat_eq q INFORMATION_OBJECT)) (out-Node n).children e in
    let second = without ASN1_TYPE (λ q. nat_eq q OBJECT_SET || nat_eq q INFORMATION_OBJECT) (out-Node n).children f in
    let third = without OBJECT_SET (λ q. nat_eq q INFORMATION_OBJECT) (out-Node n).children g in
    some_among INFORMATION_OBJECT (out-Node n).children (omega (arith, one, first, second, third))

-- a dummy without a name in small letters has another
pub dummy_has_name : (text : List ℕ) (n : Node) → Is whole_rules text DUMMY n → child_of n VALUE_IDENTIFIER ≡ None → IsSome (child_of n IDENTIFIER)
dummy_has_name text n is e =
    let one = (bounds whole_rules text DUMMY (λ q. nat_eq q VALUE_IDENTIFIER || nat_eq q IDENTIFIER) 1 None n is asked.dummy_asks_one).0 in
    let first = without VALUE_IDENTIFIER (λ q. nat_eq q IDENTIFIER) (out-Node n).children e in
    some_among IDENTIFIER (out-Node n).children (omega (arith, one, first))

-- where none of a rule is counted, none is there
none_among : (r : ℕ) (ns : List Node) → times (λ q. nat_eq q r) ns ≤ 0 → child_among ns r ≡ None
none_among r [] h = refl
none_among r (n ∷ ns) h = go (nat_eq (out-Node n).rule r) (none_among r ns) h
  where
    go : (t : Bool) → (times (λ q. nat_eq q r) ns ≤ 0 → child_among ns r ≡ None) → one_if t + times (λ q. nat_eq q r) ns ≤ 0 → cond t (Some n) (child_among ns r) ≡ None
    go true again h = absurd (omega (arith, h))
    go false again h = again (omega (arith, h))

-- what contents are told by holds no contents
pub body_has_no_body : (text : List ℕ) (n : Node) → Is whole_rules text CONTENT_BODY n → child_of n CONTENT_BODY ≡ None
body_has_no_body text n is = none_among CONTENT_BODY (out-Node n).children (bounds whole_rules text CONTENT_BODY (λ q. nat_eq q CONTENT_BODY) 0 (Some 0) n is asked.body_asks_no_body).1

-- an element has a first child, which is of one of the forms of elements
pub subtype_has_first : (text : List ℕ) (n : Node) → Is whole_rules text SUBTYPE_ELEMENT n → IsSome (first_child_of n)
subtype_has_first text n is = has_first is_element text SUBTYPE_ELEMENT n is asked.subtype_begins

pub first_is_element : (text : List ℕ) (n t : Node) → Is whole_rules text SUBTYPE_ELEMENT n → first_child_of n ≡ Some t → IsElement text t
first_is_element text n t is e =
    record { stands_by = first_stands whole_rules text n t e is.stands_by; is_one = first_passes is_element text SUBTYPE_ELEMENT n t is asked.subtype_begins e }

-- a SIZE is one of these forms
pub size_is_element : (text : List ℕ) (n : Node) → Is whole_rules text SIZE_CONSTRAINT n → IsElement text n
size_is_element text n is = record { stands_by = is.stands_by; is_one = subst (λ r. is_element r ≡ true) (sym is.rule_is) refl }
