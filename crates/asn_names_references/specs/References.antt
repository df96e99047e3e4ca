-- The names in a definition that stand where a reference may stand: of a type, a value, a class, an object or an object set; all of
-- them, or those alone that are entered, followed, asked for or selected.
-- They are more than the references: dummies, items of enumerations and named numbers that are written as a value's name are among
-- them. The name of an arc with a number is none of them (X.680 32).
use Rattle.std.specs.Prelude.{ℕ, List, [], ◌∷◌, ◌++◌, map, Option, Some, None}
use Rattle.std.specs.Option.{option_map}
use Rattle.asn_tree_headers.specs.declared.headers.ObjectIdentifierArc.{ObjectIdentifierArc}
use Rattle.asn_tree_kinds.specs.Values.{held}
use Rattle.asn_tree_kinds.specs.declared.constraints.ConstrainedComponentOver.{ConstrainedComponentOver}
use Rattle.asn_tree_kinds.specs.declared.objects.ObjectSetOver.{ObjectSetOver}
use Rattle.asn_tree_kinds.specs.declared.objects.ObjectSetValueOver.{ObjectSetValueOver}
use Rattle.asn_tree_kinds.specs.declared.objects.ObjectSetValueOver.TheVariants.{Reference, Inline}
use Rattle.asn_tree.specs.Folds.{Algebra, of_choice, of_constraint, of_content, of_element, of_field, of_fields, of_item, of_linked, of_list, of_member, of_operation, of_option, of_parameter, of_set, of_struct, of_type, of_value}
use Rattle.asn_tree.specs.Layers.{ChoiceOf, ConstraintOf, ContentOf, ElementOf, FieldOf, FieldsOf, ItemOf, LinkedOf, ListOf, MemberOf, OperationOf, OptionOf, ParameterOf, SetOf, StructOf, TypeOf, ValueOf}
use Rattle.asn_tree.specs.declared.constraints.Constraint.{Constraint, Constraint-F}
use Rattle.asn_tree.specs.declared.constraints.ContentConstraint.{ContentConstraint, ContentConstraint-F}
use Rattle.asn_tree.specs.declared.constraints.ElementOrSetOperation.{ElementOrSetOperation, ElementOrSetOperation-F}
use Rattle.asn_tree.specs.declared.constraints.Parameter.{Parameter, Parameter-F}
use Rattle.asn_tree.specs.declared.constraints.SetOperation.{SetOperation}
use Rattle.asn_tree.specs.declared.constraints.SubtypeElement.{SubtypeElement, SubtypeElement-F}
use Rattle.asn_tree.specs.declared.definitions.ParameterGovernor.{ParameterGovernor}
use Rattle.asn_tree.specs.declared.definitions.ParameterGovernor.TheVariants as governor
use Rattle.asn_tree.specs.declared.definitions.Parameterization.{Parameterization}
use Rattle.asn_tree.specs.declared.definitions.ParameterizationArgument.{ParameterizationArgument}
use Rattle.asn_tree.specs.declared.definitions.ToplevelDefinition.{ToplevelDefinition}
use Rattle.asn_tree.specs.declared.definitions.ToplevelDefinition.TheVariants.{TypeDef, Value, Information}
use Rattle.asn_tree.specs.declared.objects.ASN1Information.{ASN1Information}
use Rattle.asn_tree.specs.declared.objects.ASN1Information.TheVariants.{ObjectClass, ObjectSet, Object}
use Rattle.asn_tree.specs.declared.objects.ClassLink.{ClassLink}
use Rattle.asn_tree.specs.declared.objects.ClassLink.TheVariants.{ByName, ByReference}
use Rattle.asn_tree.specs.declared.objects.InformationObjectClass.{InformationObjectClass}
use Rattle.asn_tree.specs.declared.objects.InformationObjectClassField.{InformationObjectClassField}
use Rattle.asn_tree.specs.declared.objects.InformationObjectField.{InformationObjectField, InformationObjectField-F}
use Rattle.asn_tree.specs.declared.objects.InformationObjectFields.{InformationObjectFields, InformationObjectFields-F}
use Rattle.asn_tree.specs.declared.objects.SyntaxApplication.{SyntaxApplication, SyntaxApplication-F}
use Rattle.asn_tree.specs.declared.types.ASN1Type.{ASN1Type, ASN1Type-F}
use Rattle.asn_tree.specs.declared.types.Choice.{Choice}
use Rattle.asn_tree.specs.declared.types.ChoiceOption.{ChoiceOption}
use Rattle.asn_tree.specs.declared.types.SequenceOrSet.{SequenceOrSet}
use Rattle.asn_tree.specs.declared.types.SequenceOrSetMember.{SequenceOrSetMember}
use Rattle.asn_tree.specs.declared.types.SequenceOrSetOf.{SequenceOrSetOf}
use Rattle.asn_tree.specs.declared.values.ASN1Value.{ASN1Value, ASN1Value-F}
use Rattle.asn_tree.specs.declared.values.LinkedField.{LinkedField}
use Rattle.asn_names_references.specs.declared.wanted.Wanted.{Wanted}
use Rattle.asn_names_references.specs.declared.wanted.Wanted.TheVariants.{Every, Entered, Followed, Asked, Selected}

abbrev pub Names : Type 0
Names = List (List ℕ)

-- the names in a part, by which of them are wanted
abbrev pub NamesOf : Type 0
NamesOf = Wanted → Names

-- the names where every one is wanted, or every one that is entered; else none
abbrev pub each_name : Names → NamesOf
each_name names Every = names
each_name names Entered = names
each_name names Followed = []
each_name names Asked = []
each_name names Selected = []

-- a name
abbrev pub one_name : List ℕ → NamesOf
one_name name w = each_name (name ∷ []) w

-- those of one part after the other
abbrev pub joined : List NamesOf → NamesOf
joined [] w = []
joined (x ∷ xs) w = x w ++ joined xs w

-- a name, where there is one
abbrev pub name_in : Option (List ℕ) → NamesOf
name_in None w = []
name_in (Some name) w = one_name name w

-- those of a part, where it stands
abbrev pub present : Option NamesOf → NamesOf
present None w = []
present (Some names) w = names w

-- both parts of a path: the object and the field behind it (X.681 15); or a name alone
abbrev pub path_names : Option (List ℕ) → List ℕ → NamesOf
path_names parent name w = name_in parent w ++ one_name name w

-- such a name with what stands behind it
abbrev pub reference_names : Option (List ℕ) → List ℕ → List NamesOf → NamesOf
reference_names parent name cs w = path_names parent name w ++ joined cs w

-- in parts that are followed every name is wanted that is entered
abbrev pub within : Wanted → Wanted
within Every = Every
within Entered = Entered
within Followed = Entered
within Asked = Entered
within Selected = Selected

-- so it is in the type of a default
abbrev pub in_default : Option NamesOf → Wanted → Wanted
in_default None w = w
in_default (Some value) w = within w

-- and in an argument list; where those are wanted that are asked for, so are they in the types there
abbrev pub in_arguments : Wanted → Wanted
in_arguments Every = Every
in_arguments Entered = Entered
in_arguments Followed = Entered
in_arguments Asked = Asked
in_arguments Selected = Selected

-- the class of a field is asked for
abbrev pub of_class : Wanted → Wanted
of_class Every = Every
of_class Entered = Entered
of_class Followed = Followed
of_class Asked = Entered
of_class Selected = Selected

-- the name of an item of an object set, which is not entered
abbrev pub item_name : List ℕ → NamesOf
item_name name Every = name ∷ []
item_name name Entered = []
item_name name Followed = []
item_name name Asked = []
item_name name Selected = []

-- ---- types

-- A selection names its CHOICE (X.680 30), which is always wanted, a class's field its class (X.681 14); the option and the field are no
-- references.
abbrev pub type_names : TypeOf NamesOf → NamesOf
type_names ASN1Type-F.ASN1Type::Null w = []
type_names (ASN1Type-F.ASN1Type::Boolean t) w = joined t.constraints w
type_names (ASN1Type-F.ASN1Type::Integer t) w = joined t.constraints w
type_names (ASN1Type-F.ASN1Type::Real t) w = joined t.constraints w
type_names (ASN1Type-F.ASN1Type::BitString t) w = joined t.constraints w
type_names (ASN1Type-F.ASN1Type::OctetString t) w = joined t.constraints w
type_names (ASN1Type-F.CharacterString t) w = joined t.constraints w
type_names (ASN1Type-F.Enumerated t) w = joined t.constraints w
type_names (ASN1Type-F.ASN1Type::Choice c) w = c w
type_names (ASN1Type-F.Sequence s) w = s w
type_names (ASN1Type-F.SequenceOf l) w = l w
type_names (ASN1Type-F.Set s) w = s w
type_names (ASN1Type-F.SetOf l) w = l w
type_names (ASN1Type-F.ASN1Type::Time t) w = joined t.constraints w
type_names (ASN1Type-F.GeneralizedTime t) w = joined t.constraints w
type_names (ASN1Type-F.UTCTime t) w = joined t.constraints w
type_names (ASN1Type-F.ElsewhereDeclaredType r) w = reference_names r.parent r.identifier r.constraints w
type_names (ASN1Type-F.ChoiceSelectionType s) w = one_name s.choice_name Every
type_names (ASN1Type-F.ASN1Type::ObjectIdentifier t) w = joined t.constraints w
type_names (ASN1Type-F.InformationObjectFieldReference f) w = one_name f.class (of_class w) ++ joined f.constraints w
type_names ASN1Type-F.EmbeddedPdv w = []
type_names ASN1Type-F.External w = []

-- the members first, then the names behind COMPONENTS OF (X.680 25.5), which are followed
abbrev pub struct_names : StructOf NamesOf → NamesOf
struct_names s w = joined s.members w ++ each_name s.components_of (within w) ++ joined s.constraints w

abbrev pub member_names : MemberOf NamesOf → NamesOf
member_names m w = m.ty (in_default m.default_value w) ++ joined m.constraints w ++ present m.default_value w

abbrev pub choice_names : ChoiceOf NamesOf → NamesOf
choice_names c w = joined c.options w ++ joined c.constraints w

abbrev pub option_names : OptionOf NamesOf → NamesOf
option_names o w = o.ty w ++ joined o.constraints w

abbrev pub list_names : ListOf NamesOf → NamesOf
list_names l w = l.element_type w ++ joined l.constraints w

-- ---- values

-- an arc with a number, as `x(3)`, is an arc and no reference; one that is a name alone may be that of a value (X.680 32.3)
abbrev pub arc_name : ObjectIdentifierArc → NamesOf
arc_name a w = elim a.number [
  | None ↦ name_in a.name w
  | Some number ↦ []
]

abbrev pub arc_names : List ObjectIdentifierArc → NamesOf
arc_names [] w = []
arc_names (a ∷ arcs) w = arc_name a w ++ arc_names arcs w

-- The name of an alternative or a component is no reference; names in braces, as of bits, may be those of values. What linking
-- put in counts too: the names of the types that a value stands under.
abbrev pub value_names : ValueOf NamesOf → NamesOf
value_names ASN1Value-F.All w = []
value_names ASN1Value-F.ASN1Value::Null w = []
value_names (ASN1Value-F.ASN1Value::Boolean b) w = []
value_names (ASN1Value-F.ASN1Value::Choice type name inner) w = name_in type w ++ inner w
value_names (ASN1Value-F.SequenceOrSet parts) w = joined (map (λ p. p.1) parts) w
value_names (ASN1Value-F.ASN1Value::Integer i) w = []
value_names (ASN1Value-F.ASN1Value::Real r) w = []
value_names (ASN1Value-F.String text) w = []
value_names (ASN1Value-F.ASN1Value::BitString bits) w = []
value_names (ASN1Value-F.BitStringNamedBits names) w = each_name names w
value_names (ASN1Value-F.ASN1Value::OctetString octets) w = []
value_names (ASN1Value-F.EnumeratedValue type name) w = one_name type w ++ one_name name w
value_names (ASN1Value-F.ASN1Value::Time text) w = []
value_names (ASN1Value-F.ElsewhereDeclaredValue parent name) w = path_names parent name w
value_names (ASN1Value-F.ASN1Value::ObjectIdentifier arcs) w = arc_names arcs.0 w
value_names (ASN1Value-F.LinkedNestedValue supertypes v) w = each_name supertypes w ++ v w
value_names (ASN1Value-F.LinkedIntValue kind i) w = []
value_names (ASN1Value-F.LinkedStructLikeValue fields) w = joined fields w
value_names (ASN1Value-F.LinkedArrayLikeValue vs) w = joined vs w
value_names (ASN1Value-F.LinkedCharStringValue kind text) w = []
value_names (ASN1Value-F.LinkedElsewhereDefinedValue parent name can_be_const) w = path_names parent name w

-- a linked field, with the default where it is left out
abbrev pub linked_names : LinkedOf NamesOf → NamesOf
linked_names f w = f.ty w ++ held f.value w

-- ---- objects

-- an item of an object set: the name of an object or a set, or an object (X.681 12.3)
abbrev pub item_of_set_names : ObjectSetValueOver NamesOf → NamesOf
item_of_set_names (Reference name) w = item_name name w
item_of_set_names (Inline fields) w = fields (within w)

abbrev pub object_set_names : ObjectSetOver NamesOf → NamesOf
object_set_names s w = joined (map item_of_set_names s.values) w

-- each field by its name, which is no reference (X.681 11.5)
abbrev pub field_names : FieldOf NamesOf → NamesOf
field_names (InformationObjectField-F.TypeField f) w = f.ty w
field_names (InformationObjectField-F.FixedValueField f) w = f.value w
field_names (InformationObjectField-F.ObjectSetField f) w = object_set_names f.value w

-- An item of the class's own syntax: a word of the syntax is none, one that may be a type's name is (X.681 11.6).
abbrev pub item_names : ItemOf NamesOf → NamesOf
item_names (SyntaxApplication-F.ObjectSetDeclaration s) w = object_set_names s w
item_names (SyntaxApplication-F.ValueReference v) w = v w
item_names (SyntaxApplication-F.TypeReference ty) w = ty w
item_names SyntaxApplication-F.Comma w = []
item_names (SyntaxApplication-F.Literal word) w = []
item_names (SyntaxApplication-F.LiteralOrTypeReference r) w = reference_names r.parent r.identifier r.constraints w

abbrev pub fields_names : FieldsOf NamesOf → NamesOf
fields_names (InformationObjectFields-F.DefaultSyntax fields) w = joined fields w
fields_names (InformationObjectFields-F.CustomSyntax items) w = joined items w

-- ---- constraints

-- The names behind `@` are those of components (X.682 10.7). Tables, contents and argument lists are followed.
abbrev pub constraint_names : ConstraintOf NamesOf → NamesOf
constraint_names (Constraint-F.SubtypeConstraint s) w = s.set w
constraint_names (Constraint-F.TableConstraint t) w = object_set_names t.object_set w
constraint_names (Constraint-F.Parameter arguments) w = joined arguments (in_arguments w)
constraint_names (Constraint-F.ContentConstraint content) w = content w

abbrev pub content_names : ContentOf NamesOf → NamesOf
content_names (ContentConstraint-F.Containing ty) w = ty (within w)
content_names (ContentConstraint-F.EncodedBy rules) w = rules (within w)
content_names (ContentConstraint-F.ContainingEncodedBy ty rules) w = ty (within w) ++ rules (within w)

-- An argument that is no type is followed.
abbrev pub argument_names : ParameterOf NamesOf → NamesOf
argument_names (Parameter-F.ValueParameter v) w = v (within w)
argument_names (Parameter-F.TypeParameter ty) w = ty w
argument_names (Parameter-F.InformationObjectParameter fields) w = fields (within w)
argument_names (Parameter-F.ObjectSetParameter s) w = object_set_names s w

abbrev pub set_names : SetOf NamesOf → NamesOf
set_names (ElementOrSetOperation-F.Element e) w = e w
set_names (ElementOrSetOperation-F.SetOperation o) w = o w

abbrev pub operation_names : OperationOf NamesOf → NamesOf
operation_names o w = o.base w ++ o.operant w

-- a component that WITH COMPONENTS lists
abbrev pub component_names : ConstrainedComponentOver NamesOf → NamesOf
component_names c w = joined c.constraints w

-- A contained subtype is followed; a pattern, a constraint in words and settings hold no name.
abbrev pub element_names : ElementOf NamesOf → NamesOf
element_names (SubtypeElement-F.SingleValue v extensible) w = v w
element_names (SubtypeElement-F.ContainedSubtype ty extensible) w = ty (within w)
element_names (SubtypeElement-F.ValueRange low high low_open high_open extensible) w = present low w ++ present high w
element_names (SubtypeElement-F.PermittedAlphabet set) w = set w
element_names (SubtypeElement-F.SizeConstraint set) w = set w
element_names (SubtypeElement-F.TypeConstraint ty) w = ty (within w)
element_names (SubtypeElement-F.SingleTypeConstraint cs) w = joined cs w
element_names (SubtypeElement-F.MultipleTypeConstraints inner) w = joined (map component_names inner.constraints) w
element_names (SubtypeElement-F.PatternConstraint x) w = []
element_names (SubtypeElement-F.UserDefinedConstraint x) w = []
element_names (SubtypeElement-F.PropertySettings x) w = []

-- ---- all trees

abbrev pub naming : Algebra NamesOf
naming =
    record {
      at_constraint = constraint_names;
      at_content = content_names;
      at_set = set_names;
      at_parameter = argument_names;
      at_element = element_names;
      at_field = field_names;
      at_fields = fields_names;
      at_item = item_names;
      at_type = type_names;
      at_value = value_names;
      at_operation = operation_names;
      at_choice = choice_names;
      at_option = option_names;
      at_struct = struct_names;
      at_member = member_names;
      at_list = list_names;
      at_linked = linked_names;
    }

abbrev pub names_in : ASN1Type → NamesOf
names_in = of_type naming

abbrev pub names_in_value : ASN1Value → NamesOf
names_in_value = of_value naming

abbrev pub names_in_linked : LinkedField → NamesOf
names_in_linked = of_linked naming

abbrev pub names_in_constraint : Constraint → NamesOf
names_in_constraint = of_constraint naming

abbrev pub names_in_content : ContentConstraint → NamesOf
names_in_content = of_content naming

abbrev pub names_in_argument : Parameter → NamesOf
names_in_argument = of_parameter naming

abbrev pub names_in_set : ElementOrSetOperation → NamesOf
names_in_set = of_set naming

abbrev pub names_in_operation : SetOperation → NamesOf
names_in_operation = of_operation naming

abbrev pub names_in_element : SubtypeElement → NamesOf
names_in_element = of_element naming

abbrev pub names_in_component : ConstrainedComponentOver Constraint → NamesOf
names_in_component c w = joined (map names_in_constraint c.constraints) w

abbrev pub names_in_struct : SequenceOrSet → NamesOf
names_in_struct = of_struct naming

abbrev pub names_in_member : SequenceOrSetMember → NamesOf
names_in_member = of_member naming

abbrev pub names_in_choice : Choice → NamesOf
names_in_choice = of_choice naming

abbrev pub names_in_option : ChoiceOption → NamesOf
names_in_option = of_option naming

abbrev pub names_in_list : SequenceOrSetOf → NamesOf
names_in_list = of_list naming

abbrev pub names_in_fields : InformationObjectFields → NamesOf
names_in_fields = of_fields naming

abbrev pub names_in_field : InformationObjectField → NamesOf
names_in_field = of_field naming

abbrev pub names_in_item : SyntaxApplication → NamesOf
names_in_item = of_item naming

-- an item of an object set
abbrev pub names_in_object : ObjectSetValueOver InformationObjectFields → NamesOf
names_in_object (Reference name) w = item_name name w
names_in_object (Inline fields) w = names_in_fields fields (within w)

abbrev pub names_in_objects : List (ObjectSetValueOver InformationObjectFields) → NamesOf
names_in_objects items w = joined (map names_in_object items) w

-- ---- definitions

-- the class of a dummy, or the type that governs it (X.683 8.3)
abbrev pub governor_names : ParameterGovernor → NamesOf
governor_names governor.None w = []
governor_names (governor.TypeOrClass g) w = names_in g w
governor_names (governor.Class class) w = one_name class w

abbrev pub dummy_names : ParameterizationArgument → NamesOf
dummy_names d w = governor_names d.param_governor w

-- the governors of the dummies; the dummies are no references where they are written
abbrev pub parameter_names : Option Parameterization → NamesOf
parameter_names None w = []
parameter_names (Some p) w = joined (map dummy_names p.parameters) w

-- the type or class of a field, and its default (X.681 9.5)
abbrev pub class_field_names : InformationObjectClassField → NamesOf
class_field_names f w = present (option_map names_in f.ty) w ++ present (option_map names_in_value f.default) w

abbrev pub class_names : InformationObjectClass → NamesOf
class_names c w = joined (map class_field_names c.fields) w

-- the class of an object or an object set
abbrev pub link_names : Option ClassLink → NamesOf
link_names None w = []
link_names (Some (ByName name)) w = one_name name w
link_names (Some (ByReference name c)) w = one_name name w ++ class_names c w

abbrev pub information_names : ASN1Information → NamesOf
information_names (ObjectClass c) w = class_names c w
information_names (ObjectSet s) w = names_in_objects s.values w
information_names (Object o) w = one_name o.class_name w ++ names_in_fields o.fields w

-- Those of a definition: of its dummies' governors, of its type or class, and of its value. Its own name is none.
abbrev pub definition_names : ToplevelDefinition → NamesOf
definition_names (TypeDef d) w = parameter_names d.parameterization w ++ names_in d.ty w
definition_names (Value d) w = parameter_names d.parameterization w ++ names_in d.associated_type w ++ names_in_value d.value w
definition_names (Information d) w = parameter_names d.parameterization w ++ link_names d.class w ++ information_names d.value w

-- Every such name in a definition.
unfoldable pub references_of : ToplevelDefinition → Names
references_of d = definition_names d Every

-- Every one but those of the items of object sets.
unfoldable pub entered_of : ToplevelDefinition → Names
entered_of d = definition_names d Entered

-- Of these the ones in the types of defaults, in tables, in contents, in contained subtypes and in argument lists, and those of selections
-- and behind COMPONENTS OF.
unfoldable pub followed_of : ToplevelDefinition → Names
followed_of d = definition_names d Followed

-- Those that are asked for where each argument that is a type is merely put in: as they are followed, but that such an argument is
-- gone through as a part is; and the classes of fields.
unfoldable pub asked_of : ToplevelDefinition → Names
asked_of d = definition_names d Asked

-- Those of selections alone.
unfoldable pub selected_of : ToplevelDefinition → Names
selected_of d = definition_names d Selected

-- Every such name in a value.
abbrev pub references_in_value : ASN1Value → Names
references_in_value v = names_in_value v Every
