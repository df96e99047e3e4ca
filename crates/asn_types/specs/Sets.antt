-- Sets of values and their elements.
use Rattle.std.specs.Prelude.{◌≡◌, ℕ, List, [], ◌∷◌, nat_eq, if◌then◌else◌, Bool, true, ◌||◌, Option, Some, None}
use Rattle.asn_rules.specs.declared.names.TheConstants.{ASN1_TYPE, ASN1_VALUE, CONSTRAINT, CONTAINED_SUBTYPE, ELEMENT_SET, IDENTIFIER, MEMBER_LIST, MULTIPLE_TYPE_CONSTRAINTS, PATTERN_CONSTRAINT, PERMITTED_ALPHABET_CONSTRAINT, PROPERTY_SETTINGS_CONSTRAINT, RANGE_BODY, RANGE_HIGH, RANGE_LOW, SET_OPERATION, SET_OPERATOR, SET_REST, SINGLE_TYPE_CONSTRAINT, SINGLE_VALUE, SIZE_CONSTRAINT, SUBSET_MEMBER, SUBTYPE_ELEMENT, USER_DEFINED_CONSTRAINT, VALUE_RANGE}
use Rattle.asn_rules.specs.declared.node.Node.{Node}
use Rattle.asn_rules.specs.declared.node.Node.TheViews.{out-Node}
use Rattle.asn_rules.specs.Children.{StandsBy}
use Rattle.asn_rules.specs.Whole.{whole_rules}
use Rattle.asn_rules.specs.Nodes.{Opened, closed, child_among, child_of, made, made_all, the}
use Rattle.asn_tree_kinds.specs.declared.constraints.ConstrainedComponentOver.{ConstrainedComponentOver}
use Rattle.asn_tree_kinds.specs.declared.constraints.ElementSetOver.{ElementSetOver}
use Rattle.asn_tree_kinds.specs.declared.constraints.SetOperator.{SetOperator}
use Rattle.asn_tree.specs.MakingConstraints as making
use Rattle.asn_tree.specs.declared.constraints.Constraint.{Constraint}
use Rattle.asn_tree.specs.declared.constraints.ElementOrSetOperation.{ElementOrSetOperation}
use Rattle.asn_tree.specs.declared.constraints.ElementOrSetOperation.TheVariants.{Element, SetOperation}
use Rattle.asn_tree.specs.declared.constraints.SubtypeElement.{SubtypeElement}
use Rattle.asn_tree.specs.declared.constraints.SubtypeElement.TheVariants as element
use Rattle.asn_tree.specs.declared.types.ASN1Type.{ASN1Type}
use Rattle.asn_tree.specs.declared.values.ASN1Value.{ASN1Value}
use Rattle.asn_read_nodes.specs.Parts.{all_some, if_there, name_of, of_some}
use Rattle.asn_read_pieces.specs.Constraints.{pattern_of, user_defined_of}
use Rattle.asn_read_pieces.specs.Settings.{settings_of}
use Rattle.asn_read_pieces.specs.Words.{extensible_of, high_open_of, low_open_of, operator_of, partial_of, presence_of}
use Rattle.asn_values.specs.Braces.{value_of}
use Rattle.asn_types.specs.Read.{Read, nodes}

-- a set of values, extensible where a marker stands behind it (X.680 50.1)
abbrev pub set_with : Node → Option ElementOrSetOperation → Option (ElementSetOver ElementOrSetOperation)
set_with n rest = of_some rest (λ rest. Some (record { set = rest; extensible = extensible_of n }))

abbrev pub set_step : List ℕ → Opened Read → Option (ElementSetOver ElementOrSetOperation)
set_step text x = set_with (closed x) (made x.children SET_REST None (λ c. c.rest))

abbrev pub one_with : Option SubtypeElement → Option ElementOrSetOperation
one_with element = of_some element (λ element. Some (Element element))

-- what is left of a set from an element on: an operation, or that element
abbrev pub rest_step : List ℕ → Opened Read → Option ElementOrSetOperation
rest_step text x = made x.children SET_OPERATION (made x.children SUBTYPE_ELEMENT None (λ c. one_with c.subtype)) (λ c. c.operation)

abbrev pub an_operation : SubtypeElement → SetOperator → ElementOrSetOperation → ElementOrSetOperation
an_operation base operator rest = SetOperation (making.operation_of base operator rest)

-- an element, an operator, and what is left behind it; operators group to the right (X.680 50.1)
abbrev pub operation_with : Option Node → Option SubtypeElement → Option ElementOrSetOperation → Option ElementOrSetOperation
operation_with operator base rest =
    of_some base (λ base. of_some (the operator operator_of) (λ operator. of_some rest (λ rest. Some (an_operation base operator rest))))

abbrev pub operation_step : List ℕ → Opened Read → Option ElementOrSetOperation
operation_step text x =
    operation_with (child_among (nodes x.children) SET_OPERATOR) (made x.children SUBTYPE_ELEMENT None (λ c. c.subtype)) (made x.children SET_REST None (λ c. c.rest))

abbrev pub first_element : List (Node × Read) → Option SubtypeElement
first_element [] = None
first_element (c ∷ cs) = c.1.element_form

-- an element is the one form that stands there (X.680 51.1)
abbrev pub subtype_step : List ℕ → Opened Read → Option SubtypeElement
subtype_step text x = first_element x.children

-- the rules of the forms of elements
abbrev pub is_element : ℕ → Bool
is_element r =
    nat_eq r SINGLE_TYPE_CONSTRAINT || nat_eq r MULTIPLE_TYPE_CONSTRAINTS || nat_eq r SIZE_CONSTRAINT || nat_eq r PATTERN_CONSTRAINT || nat_eq r USER_DEFINED_CONSTRAINT
    || nat_eq r PROPERTY_SETTINGS_CONSTRAINT || nat_eq r PERMITTED_ALPHABET_CONSTRAINT || nat_eq r VALUE_RANGE || nat_eq r SINGLE_VALUE || nat_eq r CONTAINED_SUBTYPE

-- A node of one of them.
pub record IsElement (text : List ℕ) (n : Node) : Type 0 where
  pub stands_by : StandsBy whole_rules text n
  pub is_one : is_element (out-Node n).rule ≡ true

-- the elements of a list, by the constraints on each (X.680 51.8.5)
abbrev pub single_type_with : Option (List Constraint) → Option SubtypeElement
single_type_with constraints = of_some constraints (λ constraints. Some (element.SingleTypeConstraint constraints))

-- the components, in part or in full (X.680 51.8.6)
abbrev pub multiple_types_with : Node → Option (List (ConstrainedComponentOver Constraint)) → Option SubtypeElement
multiple_types_with n listed = of_some listed (λ listed. Some (element.MultipleTypeConstraints (record { is_partial = partial_of n; constraints = listed })))

-- the length (X.680 51.5); a marker behind the set has no place in the tree
abbrev pub size_with : Option (ElementSetOver ElementOrSetOperation) → Option SubtypeElement
size_with set = of_some set (λ set. Some (element.SizeConstraint set.set))

-- the characters of a string (X.680 51.7)
abbrev pub alphabet_with : Option ElementOrSetOperation → Option SubtypeElement
alphabet_with rest = of_some rest (λ rest. Some (element.PermittedAlphabet rest))

-- the values of another type (X.680 51.3), extensible where a marker stands behind it
abbrev pub contained_with : Node → Option ASN1Type → Option SubtypeElement
contained_with n type = of_some type (λ type. Some (element.ContainedSubtype type (extensible_of n)))

-- a pattern (X.680 51.9)
abbrev pub a_pattern_of : List ℕ → Node → Option SubtypeElement
a_pattern_of text n = of_some (pattern_of text n) (λ pattern. Some (element.PatternConstraint pattern))

-- what the notation does not tell (X.682 9.1)
abbrev pub told_of : List ℕ → Node → Option SubtypeElement
told_of text n = of_some (user_defined_of text n) (λ told. Some (element.UserDefinedConstraint told))

-- settings of a time type (X.680 51.10)
abbrev pub a_setting_of : List ℕ → Node → Option SubtypeElement
a_setting_of text n = of_some (settings_of text n) (λ settings. Some (element.PropertySettings settings))

-- an end of a range: a value, or nothing where MIN or MAX stands
abbrev pub end_of : List ℕ → Node → Option (Option ASN1Value)
end_of text n = if_there (child_of n ASN1_VALUE) (value_of text)

-- the range between two ends, either of which a mark beside it may leave out (X.680 51.4)
abbrev pub ends_of : Bool → List ℕ → Node → Option SubtypeElement
ends_of extensible text n =
    of_some (the (child_of n RANGE_LOW) (end_of text)) (λ min. of_some (the (child_of n RANGE_HIGH) (end_of text)) (λ max. Some (element.ValueRange min max (low_open_of n) (high_open_of n) extensible)))

-- a range, extensible where a marker stands behind it
abbrev pub range_of : List ℕ → Node → Option SubtypeElement
range_of text n = the (child_of n RANGE_BODY) (ends_of (extensible_of n) text)

-- a single value (X.680 51.2), extensible where a marker stands behind it
abbrev pub single_value_of : List ℕ → Node → Option SubtypeElement
single_value_of text n = of_some (the (child_of n ASN1_VALUE) (value_of text)) (λ value. Some (element.SingleValue value (extensible_of n)))

-- the element of a form that holds no type and no constraint
abbrev pub leaf_of : List ℕ → Node → Option SubtypeElement
leaf_of text n =
    let r = (out-Node n).rule in
    if nat_eq r PATTERN_CONSTRAINT then a_pattern_of text n
    else if nat_eq r USER_DEFINED_CONSTRAINT then told_of text n
    else if nat_eq r PROPERTY_SETTINGS_CONSTRAINT then a_setting_of text n
    else if nat_eq r VALUE_RANGE then range_of text n
    else if nat_eq r SINGLE_VALUE then single_value_of text n
    else None

abbrev pub element_form_step : List ℕ → Opened Read → Option SubtypeElement
element_form_step text x =
    if nat_eq x.rule SINGLE_TYPE_CONSTRAINT then single_type_with (made x.children CONSTRAINT None (λ c. c.constraints))
    else if nat_eq x.rule MULTIPLE_TYPE_CONSTRAINTS then multiple_types_with (closed x) (made x.children MEMBER_LIST None (λ c. c.listed))
    else if nat_eq x.rule SIZE_CONSTRAINT then size_with (made x.children ELEMENT_SET None (λ c. c.set))
    else if nat_eq x.rule PERMITTED_ALPHABET_CONSTRAINT then alphabet_with (made x.children SET_REST None (λ c. c.rest))
    else if nat_eq x.rule CONTAINED_SUBTYPE then contained_with (closed x) (made x.children ASN1_TYPE None (λ c. c.type))
    else leaf_of text (closed x)

-- the listed components, in order
abbrev pub listed_step : List ℕ → Opened Read → Option (List (ConstrainedComponentOver Constraint))
listed_step text x = all_some (made_all x.children SUBSET_MEMBER (λ member. member.listed_one))

-- a listed component: its name, the constraints on its value, and what is asked of its presence (X.680 51.8.7)
abbrev pub listed_one_with : List ℕ → Node → Option (List Constraint) → Option (ConstrainedComponentOver Constraint)
listed_one_with text n constraints =
    of_some (the (child_of n IDENTIFIER) (name_of text)) (λ name. of_some constraints (λ constraints. Some (record { identifier = name; constraints = constraints; presence = presence_of n })))

abbrev pub listed_one_step : List ℕ → Opened Read → Option (ConstrainedComponentOver Constraint)
listed_one_step text x = listed_one_with text (closed x) (made x.children CONSTRAINT (Some []) (λ c. c.constraints))
