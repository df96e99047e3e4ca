-- The names that stay in a type, in the order in which they stand, read off the tree from its parts upwards; contents and
-- tables aside.
use Rattle.std.specs.Prelude.{ℕ, Bool, List, [], ◌∷◌, ◌++◌, map, Option, None}
use Rattle.asn_link_instance.specs.Staying.{Names}
use Rattle.asn_tree_kinds.specs.declared.constraints.ConstrainedComponentOver.{ConstrainedComponentOver}
use Rattle.asn_tree.specs.Folds.{Algebra, constant, of_choice, of_constraint, of_element, of_list, of_member, of_operation, of_option, of_set, of_struct, of_type}
use Rattle.asn_tree.specs.Layers.{ChoiceOf, ConstraintOf, ElementOf, ListOf, MemberOf, OperationOf, OptionOf, SetOf, StructOf, TypeOf}
use Rattle.asn_tree.specs.declared.constraints.Constraint.{Constraint, Constraint-F}
use Rattle.asn_tree.specs.declared.constraints.ElementOrSetOperation.{ElementOrSetOperation, ElementOrSetOperation-F}
use Rattle.asn_tree.specs.declared.constraints.SetOperation.{SetOperation}
use Rattle.asn_tree.specs.declared.constraints.SubtypeElement.{SubtypeElement, SubtypeElement-F}
use Rattle.asn_tree.specs.declared.types.ASN1Type.{ASN1Type, ASN1Type-F}
use Rattle.asn_tree.specs.declared.types.Choice.{Choice}
use Rattle.asn_tree.specs.declared.types.ChoiceOption.{ChoiceOption}
use Rattle.asn_tree.specs.declared.types.SequenceOrSet.{SequenceOrSet}
use Rattle.asn_tree.specs.declared.types.SequenceOrSetMember.{SequenceOrSetMember}
use Rattle.asn_tree.specs.declared.types.SequenceOrSetOf.{SequenceOrSetOf}

-- a name behind that of an object, or alone
abbrev pub StayingName : Type 0
StayingName = Option (List ℕ) × List ℕ

abbrev pub may_stay : Names → StayingName → Bool
may_stay keeps x = keeps x.0 x.1

-- one list after the other
abbrev pub joined : List (List StayingName) → List StayingName
joined [] = []
joined (x ∷ xs) = x ++ joined xs

-- ---- types: a plain name, an object's field, and the class of an open type, each before what stands in constraints

abbrev pub type_names : TypeOf (List StayingName) → List StayingName
type_names ASN1Type-F.ASN1Type::Null = []
type_names (ASN1Type-F.ASN1Type::Boolean t) = joined t.constraints
type_names (ASN1Type-F.ASN1Type::Integer t) = joined t.constraints
type_names (ASN1Type-F.ASN1Type::Real t) = joined t.constraints
type_names (ASN1Type-F.ASN1Type::BitString t) = joined t.constraints
type_names (ASN1Type-F.ASN1Type::OctetString t) = joined t.constraints
type_names (ASN1Type-F.CharacterString t) = joined t.constraints
type_names (ASN1Type-F.Enumerated t) = joined t.constraints
type_names (ASN1Type-F.ASN1Type::Choice c) = c
type_names (ASN1Type-F.Sequence s) = s
type_names (ASN1Type-F.SequenceOf l) = l
type_names (ASN1Type-F.Set s) = s
type_names (ASN1Type-F.SetOf l) = l
type_names (ASN1Type-F.ASN1Type::Time t) = joined t.constraints
type_names (ASN1Type-F.GeneralizedTime t) = joined t.constraints
type_names (ASN1Type-F.UTCTime t) = joined t.constraints
type_names (ASN1Type-F.ElsewhereDeclaredType r) = (r.parent, r.identifier) ∷ joined r.constraints
type_names (ASN1Type-F.ChoiceSelectionType s) = []
type_names (ASN1Type-F.ASN1Type::ObjectIdentifier t) = joined t.constraints
type_names (ASN1Type-F.InformationObjectFieldReference f) = (None, f.class) ∷ joined f.constraints
type_names ASN1Type-F.EmbeddedPdv = []
type_names ASN1Type-F.External = []

abbrev pub struct_names : StructOf (List StayingName) → List StayingName
struct_names s = joined s.members ++ joined s.constraints

abbrev pub member_names : MemberOf (List StayingName) → List StayingName
member_names m = m.ty ++ joined m.constraints

abbrev pub choice_names : ChoiceOf (List StayingName) → List StayingName
choice_names c = joined c.options ++ joined c.constraints

abbrev pub option_names : OptionOf (List StayingName) → List StayingName
option_names o = o.ty ++ joined o.constraints

abbrev pub list_names : ListOf (List StayingName) → List StayingName
list_names l = l.element_type ++ joined l.constraints

-- ---- constraints

abbrev pub constraint_names : ConstraintOf (List StayingName) → List StayingName
constraint_names (Constraint-F.SubtypeConstraint s) = s.set
constraint_names (Constraint-F.TableConstraint table) = []
constraint_names (Constraint-F.Parameter arguments) = []
constraint_names (Constraint-F.ContentConstraint content) = []

abbrev pub set_names : SetOf (List StayingName) → List StayingName
set_names (ElementOrSetOperation-F.Element e) = e
set_names (ElementOrSetOperation-F.SetOperation o) = o

abbrev pub operation_names : OperationOf (List StayingName) → List StayingName
operation_names o = o.base ++ o.operant

-- a component that WITH COMPONENTS lists
abbrev pub component_names : ConstrainedComponentOver (List StayingName) → List StayingName
component_names c = joined c.constraints

abbrev pub element_names : ElementOf (List StayingName) → List StayingName
element_names (SubtypeElement-F.SingleValue v extensible) = []
element_names (SubtypeElement-F.ContainedSubtype ty extensible) = ty
element_names (SubtypeElement-F.ValueRange low high low_open high_open extensible) = []
element_names (SubtypeElement-F.PermittedAlphabet set) = set
element_names (SubtypeElement-F.SizeConstraint set) = set
element_names (SubtypeElement-F.TypeConstraint ty) = ty
element_names (SubtypeElement-F.SingleTypeConstraint cs) = joined cs
element_names (SubtypeElement-F.MultipleTypeConstraints inner) = joined (map component_names inner.constraints)
element_names (SubtypeElement-F.PatternConstraint x) = []
element_names (SubtypeElement-F.UserDefinedConstraint x) = []
element_names (SubtypeElement-F.PropertySettings x) = []

-- ---- all trees

abbrev pub gathering : Algebra (List StayingName)
gathering =
    record (constant []) {
      at_constraint = constraint_names;
      at_set = set_names;
      at_element = element_names;
      at_type = type_names;
      at_operation = operation_names;
      at_choice = choice_names;
      at_option = option_names;
      at_struct = struct_names;
      at_member = member_names;
      at_list = list_names;
    }

-- the names that stay in a type
abbrev pub staying_names : ASN1Type → List StayingName
staying_names = of_type gathering

abbrev pub names_in_constraint : Constraint → List StayingName
names_in_constraint = of_constraint gathering

abbrev pub names_in_set : ElementOrSetOperation → List StayingName
names_in_set = of_set gathering

abbrev pub names_in_operation : SetOperation → List StayingName
names_in_operation = of_operation gathering

abbrev pub names_in_element : SubtypeElement → List StayingName
names_in_element = of_element gathering

abbrev pub names_in_component : ConstrainedComponentOver Constraint → List StayingName
names_in_component c = joined (map names_in_constraint c.constraints)

abbrev pub names_in_struct : SequenceOrSet → List StayingName
names_in_struct = of_struct gathering

abbrev pub names_in_member : SequenceOrSetMember → List StayingName
names_in_member = of_member gathering

abbrev pub names_in_choice : Choice → List StayingName
names_in_choice = of_choice gathering

abbrev pub names_in_option : ChoiceOption → List StayingName
names_in_option = of_option gathering

abbrev pub names_in_list : SequenceOrSetOf → List StayingName
names_in_list = of_list gathering
