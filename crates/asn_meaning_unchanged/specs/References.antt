-- The type references that occur in a definition (X.680 14.1), inline objects and object sets aside.
use Rattle.std.specs.Prelude.{ℕ, List, [], ◌∷◌, ◌++◌, map, Option, Some, None}
use Rattle.asn_tree_kinds.specs.declared.constraints.ConstrainedComponentOver.{ConstrainedComponentOver}
use Rattle.asn_tree.specs.Folds.{Algebra, constant, of_choice, of_constraint, of_content, of_element, of_list, of_member, of_operation, of_option, of_parameter, of_set, of_struct, of_type}
use Rattle.asn_tree.specs.Layers.{ChoiceOf, ConstraintOf, ContentOf, ElementOf, ListOf, MemberOf, OperationOf, OptionOf, ParameterOf, SetOf, StructOf, TypeOf}
use Rattle.asn_tree.specs.declared.constraints.Constraint.{Constraint, Constraint-F}
use Rattle.asn_tree.specs.declared.constraints.ContentConstraint.{ContentConstraint, ContentConstraint-F}
use Rattle.asn_tree.specs.declared.constraints.ElementOrSetOperation.{ElementOrSetOperation, ElementOrSetOperation-F}
use Rattle.asn_tree.specs.declared.constraints.Parameter.{Parameter, Parameter-F}
use Rattle.asn_tree.specs.declared.constraints.SetOperation.{SetOperation}
use Rattle.asn_tree.specs.declared.constraints.SubtypeElement.{SubtypeElement, SubtypeElement-F}
use Rattle.asn_tree.specs.declared.definitions.ToplevelDefinition.{ToplevelDefinition}
use Rattle.asn_tree.specs.declared.definitions.ToplevelDefinition.TheVariants.{TypeDef, Value, Information}
use Rattle.asn_tree.specs.declared.types.ASN1Type.{ASN1Type, ASN1Type-F}
use Rattle.asn_tree.specs.declared.types.Choice.{Choice}
use Rattle.asn_tree.specs.declared.types.ChoiceOption.{ChoiceOption}
use Rattle.asn_tree.specs.declared.types.SequenceOrSet.{SequenceOrSet}
use Rattle.asn_tree.specs.declared.types.SequenceOrSetMember.{SequenceOrSetMember}
use Rattle.asn_tree.specs.declared.types.SequenceOrSetOf.{SequenceOrSetOf}

abbrev pub Names : Type 0
Names = List (List ℕ)

-- one list after the other
abbrev pub joined : List Names → Names
joined [] = []
joined (x ∷ xs) = x ++ joined xs

-- ---- types

-- a name behind that of an object is a field's
abbrev pub own_name : Option (List ℕ) → List ℕ → Names
own_name None name = name ∷ []
own_name (Some parent) name = []

abbrev pub type_names : TypeOf Names → Names
type_names ASN1Type-F.ASN1Type::Null = []
type_names (ASN1Type-F.ASN1Type::Boolean t) = joined t.constraints
type_names (ASN1Type-F.ASN1Type::Integer t) = joined t.constraints
type_names (ASN1Type-F.ASN1Type::Real t) = joined t.constraints
type_names (ASN1Type-F.ASN1Type::BitString t) = joined t.constraints
type_names (ASN1Type-F.ASN1Type::OctetString t) = joined t.constraints
type_names (ASN1Type-F.CharacterString t) = joined t.constraints
type_names (ASN1Type-F.Enumerated t) = joined t.constraints
type_names (ASN1Type-F.ASN1Type::Choice c) = c
type_names (ASN1Type-F.Sequence s) = s
type_names (ASN1Type-F.SequenceOf l) = l
type_names (ASN1Type-F.Set s) = s
type_names (ASN1Type-F.SetOf l) = l
type_names (ASN1Type-F.ASN1Type::Time t) = joined t.constraints
type_names (ASN1Type-F.GeneralizedTime t) = joined t.constraints
type_names (ASN1Type-F.UTCTime t) = joined t.constraints
type_names (ASN1Type-F.ElsewhereDeclaredType r) = own_name r.parent r.identifier ++ joined r.constraints
type_names (ASN1Type-F.ChoiceSelectionType s) = s.choice_name ∷ []
type_names (ASN1Type-F.ASN1Type::ObjectIdentifier t) = joined t.constraints
type_names (ASN1Type-F.InformationObjectFieldReference f) = joined f.constraints
type_names ASN1Type-F.EmbeddedPdv = []
type_names ASN1Type-F.External = []

-- the members first, then the names after COMPONENTS OF (X.680 25.1)
abbrev pub struct_names : StructOf Names → Names
struct_names s = joined s.members ++ s.components_of ++ joined s.constraints

abbrev pub member_names : MemberOf Names → Names
member_names m = m.ty ++ joined m.constraints

abbrev pub choice_names : ChoiceOf Names → Names
choice_names c = joined c.options ++ joined c.constraints

abbrev pub option_names : OptionOf Names → Names
option_names o = o.ty ++ joined o.constraints

abbrev pub list_names : ListOf Names → Names
list_names l = l.element_type ++ joined l.constraints

-- ---- constraints

abbrev pub constraint_names : ConstraintOf Names → Names
constraint_names (Constraint-F.SubtypeConstraint s) = s.set
constraint_names (Constraint-F.TableConstraint table) = []
constraint_names (Constraint-F.Parameter arguments) = joined arguments
constraint_names (Constraint-F.ContentConstraint content) = content

abbrev pub content_names : ContentOf Names → Names
content_names (ContentConstraint-F.Containing ty) = ty
content_names (ContentConstraint-F.EncodedBy rules) = []
content_names (ContentConstraint-F.ContainingEncodedBy ty rules) = ty

abbrev pub argument_names : ParameterOf Names → Names
argument_names (Parameter-F.ValueParameter v) = []
argument_names (Parameter-F.TypeParameter ty) = ty
argument_names (Parameter-F.InformationObjectParameter object) = []
argument_names (Parameter-F.ObjectSetParameter set) = []

abbrev pub set_names : SetOf Names → Names
set_names (ElementOrSetOperation-F.Element e) = e
set_names (ElementOrSetOperation-F.SetOperation o) = o

abbrev pub operation_names : OperationOf Names → Names
operation_names o = o.base ++ o.operant

-- a component that WITH COMPONENTS lists
abbrev pub component_names : ConstrainedComponentOver Names → Names
component_names c = joined c.constraints

abbrev pub element_names : ElementOf Names → Names
element_names (SubtypeElement-F.SingleValue v extensible) = []
element_names (SubtypeElement-F.ContainedSubtype ty extensible) = ty
element_names (SubtypeElement-F.ValueRange low high low_open high_open extensible) = []
element_names (SubtypeElement-F.PermittedAlphabet set) = set
element_names (SubtypeElement-F.SizeConstraint set) = set
element_names (SubtypeElement-F.TypeConstraint ty) = ty
element_names (SubtypeElement-F.SingleTypeConstraint cs) = joined cs
element_names (SubtypeElement-F.MultipleTypeConstraints inner) = joined (map component_names inner.constraints)
element_names (SubtypeElement-F.PatternConstraint x) = []
element_names (SubtypeElement-F.UserDefinedConstraint x) = []
element_names (SubtypeElement-F.PropertySettings x) = []

-- ---- all trees

abbrev pub naming : Algebra Names
naming =
    record (constant []) {
      at_constraint = constraint_names;
      at_content = content_names;
      at_set = set_names;
      at_parameter = argument_names;
      at_element = element_names;
      at_type = type_names;
      at_operation = operation_names;
      at_choice = choice_names;
      at_option = option_names;
      at_struct = struct_names;
      at_member = member_names;
      at_list = list_names;
    }

abbrev pub names_in : ASN1Type → Names
names_in = of_type naming

abbrev pub names_in_constraint : Constraint → Names
names_in_constraint = of_constraint naming

abbrev pub names_in_content : ContentConstraint → Names
names_in_content = of_content naming

abbrev pub names_in_argument : Parameter → Names
names_in_argument = of_parameter naming

abbrev pub names_in_set : ElementOrSetOperation → Names
names_in_set = of_set naming

abbrev pub names_in_operation : SetOperation → Names
names_in_operation = of_operation naming

abbrev pub names_in_element : SubtypeElement → Names
names_in_element = of_element naming

abbrev pub names_in_component : ConstrainedComponentOver Constraint → Names
names_in_component c = joined (map names_in_constraint c.constraints)

abbrev pub names_in_struct : SequenceOrSet → Names
names_in_struct = of_struct naming

abbrev pub names_in_member : SequenceOrSetMember → Names
names_in_member = of_member naming

abbrev pub names_in_choice : Choice → Names
names_in_choice = of_choice naming

abbrev pub names_in_option : ChoiceOption → Names
names_in_option = of_option naming

abbrev pub names_in_list : SequenceOrSetOf → Names
names_in_list = of_list naming

-- The type references of a definition's type; values, classes, objects and sets have none that are judged yet.
unfoldable pub names_of : ToplevelDefinition → Names
names_of (TypeDef d) = names_in d.ty
names_of (Value d) = []
names_of (Information d) = []
