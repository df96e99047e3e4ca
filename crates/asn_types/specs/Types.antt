-- Types (X.680 17): what a node of each form of types is, by what its children are.
use Rattle.std.specs.Prelude.{◌≡◌, ℕ, List, [], ◌∷◌, codes, nat_eq, if◌then◌else◌, Bool, true, ◌||◌, Option, Some, None, unwrap_or}
use Rattle.asn_rules.specs.declared.names.TheConstants.{ASN1_TYPE, BIT_STRING, BOOLEAN, CHARACTER_STRING, CHOICE, CLASS_NAME, CONSTRAINT, DISTINGUISHED_VALUES, ELEMENT, ELSEWHERE_DECLARED_TYPE, EMBEDDED_PDV, ENUMERATED, EXTERNAL, GENERALIZED_TIME, INFORMATION_OBJECT_FIELD_REFERENCE, INSTANCE_OF, INTEGER, NULL, OBJECT_IDENTIFIER, OCTET_STRING, OPTION_ADDITIONS, OPTION_LIST, REAL, SELECTION_TYPE_CHOICE, SEQUENCE, SEQUENCE_OF, SET, SET_OF, STRUCT_BODY, TIME, TITLE_CASE_IDENTIFIER, UTC_TIME, VALUE_PATH}
use Rattle.asn_rules.specs.declared.node.Node.{Node}
use Rattle.asn_rules.specs.declared.node.Node.TheViews.{out-Node}
use Rattle.asn_rules.specs.Children.{StandsBy}
use Rattle.asn_rules.specs.Nodes.{Opened, child_of, closed, made, the}
use Rattle.asn_rules.specs.Whole.{whole_rules}
use Rattle.asn_tree_kinds.specs.declared.objects.InformationObjectFieldReferenceOver.{InformationObjectFieldReferenceOver}
use Rattle.asn_tree_kinds.specs.declared.types.DistinguishedValue.{DistinguishedValue}
use Rattle.asn_tree_leaves.specs.declared.objects.ObjectFieldIdentifier.{ObjectFieldIdentifier}
use Rattle.asn_tree_leaves.specs.declared.objects.ObjectFieldIdentifier.TheVariants.{MultipleValue}
use Rattle.asn_tree.specs.MakingTypes.{list_of}
use Rattle.asn_tree.specs.declared.constraints.Constraint.{Constraint}
use Rattle.asn_tree.specs.declared.types.ASN1Type.{ASN1Type, ASN1Type-F, roll-ASN1Type}
use Rattle.asn_tree.specs.declared.types.ASN1Type.TheVariants as ty
use Rattle.asn_tree.specs.declared.types.ChoiceOption.{ChoiceOption}
use Rattle.asn_tree.specs.declared.types.SequenceOrSet.{SequenceOrSet, out-SequenceOrSet, roll-SequenceOrSet}
use Rattle.asn_calls.specs.Types.{builtin_named, elsewhere}
use Rattle.asn_read_nodes.specs.Parts.{if_there, name_of, of_some}
use Rattle.asn_read_nodes.specs.Paths.{parent_of}
use Rattle.asn_read_pieces.specs.Fields.{capitals_of, field_path_of}
use Rattle.asn_read_pieces.specs.Numbers.{distinguished_values_of}
use Rattle.asn_read_pieces.specs.Types.{selection_of}
use Rattle.asn_read_pieces.specs.Words.{string_type_of}
use Rattle.asn_types.specs.Choices.{choice_with}
use Rattle.asn_types.specs.Enumerations.{enumerated_with}
use Rattle.asn_types.specs.Read.{Read}

-- the rules of the forms of types that hold nothing of types but constraints
abbrev pub is_constrained : ℕ → Bool
is_constrained r =
    nat_eq r OBJECT_IDENTIFIER || nat_eq r UTC_TIME || nat_eq r INSTANCE_OF || nat_eq r GENERALIZED_TIME || nat_eq r REAL || nat_eq r INTEGER
    || nat_eq r BOOLEAN || nat_eq r BIT_STRING || nat_eq r TIME || nat_eq r OCTET_STRING || nat_eq r CHARACTER_STRING
    || nat_eq r INFORMATION_OBJECT_FIELD_REFERENCE || nat_eq r ELSEWHERE_DECLARED_TYPE

-- those of the others
abbrev pub is_other : ℕ → Bool
is_other r =
    nat_eq r NULL || nat_eq r SELECTION_TYPE_CHOICE || nat_eq r SEQUENCE_OF || nat_eq r SEQUENCE || nat_eq r SET_OF || nat_eq r SET
    || nat_eq r EXTERNAL || nat_eq r EMBEDDED_PDV || nat_eq r CHOICE || nat_eq r ENUMERATED

-- the rules of the forms of types
abbrev pub is_type : ℕ → Bool
is_type r = is_other r || is_constrained r

-- A node of one of them.
pub record IsType (text : List ℕ) (n : Node) : Type 0 where
  pub stands_by : StandsBy whole_rules text n
  pub is_one : is_type (out-Node n).rule ≡ true

-- a type that has nothing but constraints
abbrev pub constrained : (List Constraint → ASN1Type) → Option (List Constraint) → Option ASN1Type
constrained type constraints = of_some constraints (λ cs. Some (type cs))

-- BOOLEAN (X.680 18.1)
abbrev pub boolean_with : Option (List Constraint) → Option ASN1Type
boolean_with = constrained (λ cs. ty.Boolean (record { constraints = cs }))

-- REAL (X.680 21.1)
abbrev pub real_with : Option (List Constraint) → Option ASN1Type
real_with = constrained (λ cs. ty.Real (record { constraints = cs }))

-- OCTET STRING (X.680 23.1)
abbrev pub octet_string_with : Option (List Constraint) → Option ASN1Type
octet_string_with = constrained (λ cs. ty.OctetString (record { constraints = cs }))

-- OBJECT IDENTIFIER (X.680 32.1); RELATIVE-OID is read as it
abbrev pub object_identifier_with : Option (List Constraint) → Option ASN1Type
object_identifier_with = constrained (λ cs. ty.ObjectIdentifier (record { constraints = cs }))

-- TIME (X.680 38.1)
abbrev pub time_with : Option (List Constraint) → Option ASN1Type
time_with = constrained (λ cs. ty.Time (record { constraints = cs }))

-- GeneralizedTime (X.680 46.1)
abbrev pub generalized_time_with : Option (List Constraint) → Option ASN1Type
generalized_time_with = constrained (λ cs. ty.GeneralizedTime (record { constraints = cs }))

-- UTCTime (X.680 47.1)
abbrev pub utc_time_with : Option (List Constraint) → Option ASN1Type
utc_time_with = constrained (λ cs. ty.UTCTime (record { constraints = cs }))

-- the named numbers or bits in braces, where they stand
abbrev pub named_numbers : List ℕ → Node → Option (Option (List DistinguishedValue))
named_numbers text n = if_there (child_of n DISTINGUISHED_VALUES) (distinguished_values_of text)

-- INTEGER (X.680 19.1)
abbrev pub integer_with : List ℕ → Node → Option (List Constraint) → Option ASN1Type
integer_with text n constraints =
    of_some (named_numbers text n) (λ named. of_some constraints (λ cs. Some (ty.Integer (record { constraints = cs; distinguished_values = named }))))

-- BIT STRING (X.680 22.1)
abbrev pub bit_string_with : List ℕ → Node → Option (List Constraint) → Option ASN1Type
bit_string_with text n constraints =
    of_some (named_numbers text n) (λ named. of_some constraints (λ cs. Some (ty.BitString (record { constraints = cs; distinguished_values = named }))))

-- a character string type (X.680 41.1)
abbrev pub character_string_with : Node → Option (List Constraint) → Option ASN1Type
character_string_with n constraints =
    of_some (string_type_of n) (λ kind. of_some constraints (λ cs. Some (ty.CharacterString (record { constraints = cs; ty = kind }))))

-- a selection type (X.680 30.1)
abbrev pub selection_with : List ℕ → Node → Option ASN1Type
selection_with text n = of_some (selection_of text n) (λ selection. Some (ty.ChoiceSelectionType selection))

-- the fields that INSTANCE OF stands for: the one named &Type of the class (X.681 Annex C)
abbrev pub type_field : List ObjectFieldIdentifier
type_field = MultipleValue (codes "&Type") ∷ []

abbrev pub field_reference_by : Option (List ℕ) → Option (List ObjectFieldIdentifier) → Option (List Constraint) → Option (InformationObjectFieldReferenceOver Constraint)
field_reference_by class path constraints =
    of_some class (λ class. of_some path (λ path. of_some constraints (λ cs. Some (record { class = class; field_path = path; constraints = cs }))))

-- the type of a class's field (X.681 14.1)
abbrev pub field_reference_with : List ℕ → Node → Option (List Constraint) → Option (InformationObjectFieldReferenceOver Constraint)
field_reference_with text n constraints = field_reference_by (the (child_of n CLASS_NAME) (capitals_of text)) (field_path_of text n) constraints

abbrev pub field_type_with : List ℕ → Node → Option (List Constraint) → Option ASN1Type
field_type_with text n constraints = of_some (field_reference_with text n constraints) (λ reference. Some (ty.InformationObjectFieldReference reference))

-- INSTANCE OF a class (X.681 Annex C)
abbrev pub instance_of_with : List ℕ → Node → Option (List Constraint) → Option ASN1Type
instance_of_with text n constraints =
    of_some (field_reference_by (the (child_of n CLASS_NAME) (capitals_of text)) (Some type_field) constraints) (λ reference. Some (ty.InformationObjectFieldReference reference))

-- what a name of a type stands for: without a path to it the built-in type of that word, where there is one, else the type of that name
abbrev pub type_named : Option (List ℕ) → List ℕ → List Constraint → ASN1Type
type_named parent name constraints = unwrap_or (builtin_named parent name constraints) (elsewhere parent name constraints)

-- a type reference, behind the path to it where there is one (X.680 14.1, X.681 15)
abbrev pub elsewhere_with : List ℕ → Node → Option (List Constraint) → Option ASN1Type
elsewhere_with text n constraints =
    of_some (the (child_of n VALUE_PATH) (parent_of text)) (λ parent. of_some (the (child_of n TITLE_CASE_IDENTIFIER) (name_of text)) (λ name. of_some constraints (λ cs. Some (type_named parent name cs))))

-- SEQUENCE OF (X.680 26.1)
abbrev pub sequence_of_with : Option ASN1Type → Option (List Constraint) → Option ASN1Type
sequence_of_with element constraints =
    of_some element (λ element. of_some constraints (λ cs. Some (roll-ASN1Type (ASN1Type-F.SequenceOf (list_of (Some cs) element)))))

-- SET OF (X.680 28.1)
abbrev pub set_of_with : Option ASN1Type → Option (List Constraint) → Option ASN1Type
set_of_with element constraints =
    of_some element (λ element. of_some constraints (λ cs. Some (roll-ASN1Type (ASN1Type-F.SetOf (list_of (Some cs) element)))))

-- what stands between the braces, with the constraints behind them
abbrev pub constrained_body : SequenceOrSet → List Constraint → SequenceOrSet
constrained_body body constraints = roll-SequenceOrSet (record (out-SequenceOrSet body) { constraints = constraints })

-- SEQUENCE (X.680 25.1)
abbrev pub sequence_with : Option SequenceOrSet → Option (List Constraint) → Option ASN1Type
sequence_with body constraints =
    of_some body (λ body. of_some constraints (λ cs. Some (roll-ASN1Type (ASN1Type-F.Sequence (constrained_body body cs)))))

-- SET (X.680 27.1)
abbrev pub set_with : Option SequenceOrSet → Option (List Constraint) → Option ASN1Type
set_with body constraints =
    of_some body (λ body. of_some constraints (λ cs. Some (roll-ASN1Type (ASN1Type-F.Set (constrained_body body cs)))))

-- What the children of a form of types are: the constraints behind it, the element of a list, what stands between the braces of a SEQUENCE
-- or SET, and the options of a CHOICE before its extension marker and behind it.
pub record Parts : Type 0 where
  pub constraints : Option (List Constraint)
  pub element : Option ASN1Type
  pub body : Option SequenceOrSet
  pub options : Option (List ChoiceOption)
  pub additions : Option (List ChoiceOption)

-- A node of a form that holds nothing of types but constraints.
pub record IsConstrained (text : List ℕ) (n : Node) : Type 0 where
  pub stands_by : StandsBy whole_rules text n
  pub is_one : is_constrained (out-Node n).rule ≡ true

-- the type that a node of one of these is, with these constraints
abbrev pub constrained_form : List ℕ → Node → Option (List Constraint) → Option ASN1Type
constrained_form text n constraints =
    let r = (out-Node n).rule in
    if nat_eq r OBJECT_IDENTIFIER then object_identifier_with constraints
    else if nat_eq r UTC_TIME then utc_time_with constraints
    else if nat_eq r INSTANCE_OF then instance_of_with text n constraints
    else if nat_eq r GENERALIZED_TIME then generalized_time_with constraints
    else if nat_eq r REAL then real_with constraints
    else if nat_eq r INTEGER then integer_with text n constraints
    else if nat_eq r BOOLEAN then boolean_with constraints
    else if nat_eq r BIT_STRING then bit_string_with text n constraints
    else if nat_eq r TIME then time_with constraints
    else if nat_eq r OCTET_STRING then octet_string_with constraints
    else if nat_eq r CHARACTER_STRING then character_string_with n constraints
    else if nat_eq r INFORMATION_OBJECT_FIELD_REFERENCE then field_type_with text n constraints
    else if nat_eq r ELSEWHERE_DECLARED_TYPE then elsewhere_with text n constraints
    else None

-- the type that a node of one of the forms is, by what its children are
abbrev pub form_with : List ℕ → Node → Parts → Option ASN1Type
form_with text n parts =
    let r = (out-Node n).rule in
    if nat_eq r NULL then Some ty.Null
    else if nat_eq r SELECTION_TYPE_CHOICE then selection_with text n
    else if nat_eq r SEQUENCE_OF then sequence_of_with parts.element parts.constraints
    else if nat_eq r SEQUENCE then sequence_with parts.body parts.constraints
    else if nat_eq r SET_OF then set_of_with parts.element parts.constraints
    else if nat_eq r SET then set_with parts.body parts.constraints
    else if nat_eq r EXTERNAL then Some ty.External
    else if nat_eq r EMBEDDED_PDV then Some ty.EmbeddedPdv
    else if nat_eq r CHOICE then choice_with n parts.options parts.additions
    else if nat_eq r ENUMERATED then enumerated_with text n
    else constrained_form text n parts.constraints

-- the constraints behind a type (X.680 49.6): none where none stand
abbrev pub constraints_made : List (Node × Read) → Option (List Constraint)
constraints_made children = made children CONSTRAINT (Some []) (λ c. c.constraints)

abbrev pub parts_made : List (Node × Read) → Parts
parts_made children =
    record {
      constraints = constraints_made children;
      element = made children ELEMENT None (λ c. c.element);
      body = made children STRUCT_BODY None (λ c. c.body);
      options = made children OPTION_LIST None (λ c. c.options);
      additions = made children OPTION_ADDITIONS None (λ c. c.options);
    }

abbrev pub form_step : List ℕ → Opened Read → Option ASN1Type
form_step text x = form_with text (closed x) (parts_made x.children)

abbrev pub first_form : List (Node × Read) → Option ASN1Type
first_form [] = None
first_form (c ∷ cs) = c.1.form

-- a type is what the one node under it is as a form of types
abbrev pub type_step : List ℕ → Opened Read → Option ASN1Type
type_step text x = first_form x.children

-- the element of a list is its type; a name before it leaves no trace (X.680 26.1)
abbrev pub element_step : List ℕ → Opened Read → Option ASN1Type
element_step text x = made x.children ASN1_TYPE None (λ c. c.type)
