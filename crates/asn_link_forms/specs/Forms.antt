-- Which forms that linking replaces stand in a type, told by its form alone.
use Rattle.std.specs.Prelude.{ℕ, List, [], ◌∷◌, Bool, true, false, ◌&&◌, ◌||◌, Option, Some, None, is_none, map}
use Rattle.asn_tree_kinds.specs.declared.constraints.ConstrainedComponentOver.{ConstrainedComponentOver}
use Rattle.asn_tree_kinds.specs.declared.objects.ObjectSetOver.{ObjectSetOver}
use Rattle.asn_tree_kinds.specs.declared.objects.ObjectSetValueOver.{ObjectSetValueOver}
use Rattle.asn_tree_kinds.specs.declared.objects.ObjectSetValueOver.TheVariants.{Reference, Inline}
use Rattle.asn_tree_leaves.specs.declared.objects.ObjectFieldIdentifier.{ObjectFieldIdentifier}
use Rattle.asn_tree_leaves.specs.declared.objects.ObjectFieldIdentifier.TheVariants.{SingleValue, MultipleValue}
use Rattle.asn_tree.specs.Folds.{Steps, of_choice, of_constraint, of_content, of_element, of_field, of_fields, of_item, of_list, of_member, of_operation, of_option, of_parameter, of_set, of_struct, of_type, of_value}
use Rattle.asn_tree.specs.Layers.{Carriers, all, ChoiceOver, ConstraintOver, ContentOver, ElementOver, FieldOver, FieldsOver, ItemOver, ListOver, MemberOver, OperationOver, OptionOver, ParameterOver, SetOver, StructOver, TypeOver, ValueOver}
use Rattle.asn_tree.specs.declared.constraints.Constraint.{Constraint, Constraint-F}
use Rattle.asn_tree.specs.declared.constraints.ContentConstraint.{ContentConstraint, ContentConstraint-F}
use Rattle.asn_tree.specs.declared.constraints.ElementOrSetOperation.{ElementOrSetOperation, ElementOrSetOperation-F}
use Rattle.asn_tree.specs.declared.constraints.Parameter.{Parameter, Parameter-F}
use Rattle.asn_tree.specs.declared.constraints.SetOperation.{SetOperation}
use Rattle.asn_tree.specs.declared.constraints.SubtypeElement.{SubtypeElement, SubtypeElement-F}
use Rattle.asn_tree.specs.declared.objects.InformationObjectField.{InformationObjectField, InformationObjectField-F}
use Rattle.asn_tree.specs.declared.objects.InformationObjectFields.{InformationObjectFields, InformationObjectFields-F}
use Rattle.asn_tree.specs.declared.objects.SyntaxApplication.{SyntaxApplication, SyntaxApplication-F}
use Rattle.asn_tree.specs.declared.types.ASN1Type.{ASN1Type, ASN1Type-F}
use Rattle.asn_tree.specs.declared.types.Choice.{Choice}
use Rattle.asn_tree.specs.declared.types.ChoiceOption.{ChoiceOption}
use Rattle.asn_tree.specs.declared.types.SequenceOrSet.{SequenceOrSet}
use Rattle.asn_tree.specs.declared.types.SequenceOrSetMember.{SequenceOrSetMember}
use Rattle.asn_tree.specs.declared.types.SequenceOrSetOf.{SequenceOrSetOf}
use Rattle.asn_tree.specs.declared.values.ASN1Value.{ASN1Value, ASN1Value-F}
use Rattle.asn_link_forms.specs.declared.forms.Form.{Form}
use Rattle.asn_link_forms.specs.declared.forms.Form.TheVariants.{Selection, ComponentsOf, ClassField, ConstraintReference}
use Rattle.asn_link_forms.specs.declared.forms.Position.{Position}
use Rattle.asn_link_forms.specs.declared.forms.Position.TheVariants.{Alone, Contained}

-- what is told of each tree: whether the form stands in it; of a type, by where it stands itself
abbrev pub told : Carriers
told = record (all Bool) { for_type = Position → Bool }

-- the first is true, or one of these is
abbrev pub any_behind : Bool → List Bool → Bool
any_behind b [] = b
any_behind b (c ∷ cs) = any_behind (b || c) cs

abbrev pub is_any : List Bool → Bool
is_any bs = any_behind false bs

-- what is told of a part, where it stands
abbrev pub present : Option Bool → Bool
present None = false
present (Some b) = b

abbrev pub has_some : {A : Type 0} → List A → Bool
has_some [] = false
has_some (x ∷ xs) = true

-- ---- forms

abbrev pub is_selection : Form → Bool
is_selection Selection = true
is_selection ComponentsOf = false
is_selection ClassField = false
is_selection ConstraintReference = false

abbrev pub is_components_of : Form → Bool
is_components_of Selection = false
is_components_of ComponentsOf = true
is_components_of ClassField = false
is_components_of ConstraintReference = false

abbrev pub is_class_field : Form → Bool
is_class_field Selection = false
is_class_field ComponentsOf = false
is_class_field ClassField = true
is_class_field ConstraintReference = false

abbrev pub is_reference : Form → Bool
is_reference Selection = false
is_reference ComponentsOf = false
is_reference ClassField = false
is_reference ConstraintReference = true

-- in contents and tables (X.682 10, 11) all forms count but references
abbrev pub is_sought_inside : Form → Bool
is_sought_inside Selection = true
is_sought_inside ComponentsOf = true
is_sought_inside ClassField = true
is_sought_inside ConstraintReference = false

-- ---- values

-- A value that is itself a name is a reference (X.680 14.1); that of an item of an ENUMERATED is written as one. What a value holds is
-- not looked into.
abbrev pub value_forms : Form → ValueOver told → Bool
value_forms form ASN1Value-F.All = false
value_forms form ASN1Value-F.ASN1Value::Null = false
value_forms form (ASN1Value-F.ASN1Value::Boolean b) = false
value_forms form (ASN1Value-F.ASN1Value::Choice type name inner) = false
value_forms form (ASN1Value-F.SequenceOrSet parts) = false
value_forms form (ASN1Value-F.ASN1Value::Integer i) = false
value_forms form (ASN1Value-F.ASN1Value::Real r) = false
value_forms form (ASN1Value-F.String text) = false
value_forms form (ASN1Value-F.ASN1Value::BitString bits) = false
value_forms form (ASN1Value-F.BitStringNamedBits names) = false
value_forms form (ASN1Value-F.ASN1Value::OctetString octets) = false
value_forms form (ASN1Value-F.EnumeratedValue type name) = is_reference form
value_forms form (ASN1Value-F.ASN1Value::Time text) = false
value_forms form (ASN1Value-F.ElsewhereDeclaredValue parent name) = is_reference form
value_forms form (ASN1Value-F.ASN1Value::ObjectIdentifier arcs) = false
value_forms form (ASN1Value-F.LinkedNestedValue supertypes v) = false
value_forms form (ASN1Value-F.LinkedIntValue kind i) = false
value_forms form (ASN1Value-F.LinkedStructLikeValue fields) = false
value_forms form (ASN1Value-F.LinkedArrayLikeValue vs) = false
value_forms form (ASN1Value-F.LinkedCharStringValue kind text) = false
value_forms form (ASN1Value-F.LinkedElsewhereDefinedValue parent name can_be_const) = false

-- ---- objects

-- an item of an object set: an object that is written out, or a name, which holds no type (X.681 12.3)
abbrev pub item_of_set_forms : ObjectSetValueOver Bool → Bool
item_of_set_forms (Reference name) = false
item_of_set_forms (Inline fields) = fields

abbrev pub object_set_forms : ObjectSetOver Bool → Bool
object_set_forms s = is_any (map item_of_set_forms s.values)

-- a field that an object gives by its name; a value holds no type (X.681 11.5)
abbrev pub given_forms : FieldOver told → Bool
given_forms (InformationObjectField-F.TypeField f) = f.ty Alone
given_forms (InformationObjectField-F.FixedValueField f) = false
given_forms (InformationObjectField-F.ObjectSetField f) = object_set_forms f.value

-- an item of the class's own syntax (X.681 11.6)
abbrev pub item_forms : ItemOver told → Bool
item_forms (SyntaxApplication-F.ObjectSetDeclaration s) = object_set_forms s
item_forms (SyntaxApplication-F.ValueReference v) = false
item_forms (SyntaxApplication-F.TypeReference ty) = ty Alone
item_forms SyntaxApplication-F.Comma = false
item_forms (SyntaxApplication-F.Literal word) = false
item_forms (SyntaxApplication-F.LiteralOrTypeReference r) = is_any r.constraints

-- what an object gives (X.681 11.4)
abbrev pub object_forms : FieldsOver told → Bool
object_forms (InformationObjectFields-F.DefaultSyntax fields) = is_any fields
object_forms (InformationObjectFields-F.CustomSyntax items) = is_any items

-- ---- constraints

abbrev pub element_forms : ElementOver told → Bool
element_forms (SubtypeElement-F.SingleValue v extensible) = v
element_forms (SubtypeElement-F.ContainedSubtype ty extensible) = ty Contained
element_forms (SubtypeElement-F.ValueRange low high low_open high_open extensible) = present low || present high
element_forms (SubtypeElement-F.PermittedAlphabet set) = set
element_forms (SubtypeElement-F.SizeConstraint set) = set
element_forms (SubtypeElement-F.TypeConstraint ty) = ty Contained
element_forms (SubtypeElement-F.SingleTypeConstraint cs) = is_any cs
element_forms (SubtypeElement-F.MultipleTypeConstraints inner) = is_any (map (λ c. is_any c.constraints) inner.constraints)
element_forms (SubtypeElement-F.PatternConstraint x) = false
element_forms (SubtypeElement-F.UserDefinedConstraint x) = false
element_forms (SubtypeElement-F.PropertySettings x) = false

abbrev pub set_forms : SetOver told → Bool
set_forms (ElementOrSetOperation-F.Element e) = e
set_forms (ElementOrSetOperation-F.SetOperation o) = o

abbrev pub operation_forms : OperationOver told → Bool
operation_forms o = o.base || o.operant

-- the type behind CONTAINING; the value behind ENCODED BY holds no type (X.682 11)
abbrev pub content_forms : ContentOver told → Bool
content_forms (ContentConstraint-F.Containing ty) = ty Alone
content_forms (ContentConstraint-F.EncodedBy rules) = false
content_forms (ContentConstraint-F.ContainingEncodedBy ty rules) = ty Alone

-- an argument: a type, objects that are written out, or a value, which holds no type (X.683 9.5)
abbrev pub argument_forms : ParameterOver told → Bool
argument_forms (Parameter-F.ValueParameter v) = false
argument_forms (Parameter-F.TypeParameter ty) = ty Alone
argument_forms (Parameter-F.InformationObjectParameter fields) = fields
argument_forms (Parameter-F.ObjectSetParameter s) = object_set_forms s

-- An argument list is a reference itself (X.683 9.1). Contents and tables are looked into where `inside` says so.
abbrev pub constraint_forms : Bool → Form → ConstraintOver told → Bool
constraint_forms inside form (Constraint-F.SubtypeConstraint s) = s.set
constraint_forms inside form (Constraint-F.TableConstraint table) = inside && object_set_forms table.object_set
constraint_forms inside form (Constraint-F.Parameter arguments) = is_reference form || is_any arguments
constraint_forms inside form (Constraint-F.ContentConstraint content) = inside && content

-- ---- types

abbrev pub is_contained : Position → Bool
is_contained Alone = false
is_contained Contained = true

-- a plain name as the head of a contained subtype is a reference (X.680 51.3)
abbrev pub name_forms : Form → Option (List ℕ) → List Bool → Position → Bool
name_forms form parent cs position = (is_reference form && (is_contained position && is_none parent)) || is_any cs

-- a small letter follows the `&` (X.681 7.5)
abbrev pub is_value_field : ObjectFieldIdentifier → Bool
is_value_field (SingleValue name) = true
is_value_field (MultipleValue name) = false

-- so of the last of these, and of none the first answer
abbrev pub last_behind : Bool → List ObjectFieldIdentifier → Bool
last_behind b [] = b
last_behind b (x ∷ xs) = last_behind (is_value_field x) xs

-- the last step is a value field
abbrev pub ends_in_value : List ObjectFieldIdentifier → Bool
ends_in_value path = last_behind false path

-- the type of a class's field whose last step is a value field (X.681 14.1)
abbrev pub field_forms : Form → List ObjectFieldIdentifier → List Bool → Bool
field_forms form path cs = (is_class_field form && ends_in_value path) || is_any cs

-- a selection type (X.680 30.1), or what stands in the parts of a type and in the constraints behind it
abbrev pub type_forms : Form → TypeOver told → Position → Bool
type_forms form ASN1Type-F.ASN1Type::Null position = false
type_forms form (ASN1Type-F.ASN1Type::Boolean t) position = is_any t.constraints
type_forms form (ASN1Type-F.ASN1Type::Integer t) position = is_any t.constraints
type_forms form (ASN1Type-F.ASN1Type::Real t) position = is_any t.constraints
type_forms form (ASN1Type-F.ASN1Type::BitString t) position = is_any t.constraints
type_forms form (ASN1Type-F.ASN1Type::OctetString t) position = is_any t.constraints
type_forms form (ASN1Type-F.CharacterString t) position = is_any t.constraints
type_forms form (ASN1Type-F.Enumerated t) position = is_any t.constraints
type_forms form (ASN1Type-F.ASN1Type::Choice c) position = c
type_forms form (ASN1Type-F.Sequence s) position = s
type_forms form (ASN1Type-F.SequenceOf l) position = l
type_forms form (ASN1Type-F.Set s) position = s
type_forms form (ASN1Type-F.SetOf l) position = l
type_forms form (ASN1Type-F.ASN1Type::Time t) position = is_any t.constraints
type_forms form (ASN1Type-F.GeneralizedTime t) position = is_any t.constraints
type_forms form (ASN1Type-F.UTCTime t) position = is_any t.constraints
type_forms form (ASN1Type-F.ElsewhereDeclaredType r) position = name_forms form r.parent r.constraints position
type_forms form (ASN1Type-F.ChoiceSelectionType s) position = is_selection form
type_forms form (ASN1Type-F.ASN1Type::ObjectIdentifier t) position = is_any t.constraints
type_forms form (ASN1Type-F.InformationObjectFieldReference f) position = field_forms form f.field_path f.constraints
type_forms form ASN1Type-F.EmbeddedPdv position = false
type_forms form ASN1Type-F.External position = false

abbrev pub member_forms : MemberOver told → Bool
member_forms m = (m.ty Alone || is_any m.constraints) || present m.default_value

abbrev pub option_forms : OptionOver told → Bool
option_forms o = o.ty Alone || is_any o.constraints

-- COMPONENTS OF (X.680 25.5)
abbrev pub struct_forms : Form → StructOver told → Bool
struct_forms form s = ((is_components_of form && has_some s.components_of) || is_any s.members) || is_any s.constraints

abbrev pub choice_forms : ChoiceOver told → Bool
choice_forms c = is_any c.options || is_any c.constraints

abbrev pub list_forms : ListOver told → Bool
list_forms l = l.element_type Alone || is_any l.constraints

-- ---- all trees

-- with what stands in contents and tables, or without it
abbrev pub looking : Bool → Form → Steps told
looking inside form =
    record {
      at_constraint = constraint_forms inside form;
      at_content = content_forms;
      at_set = set_forms;
      at_parameter = argument_forms;
      at_element = element_forms;
      at_field = given_forms;
      at_fields = object_forms;
      at_item = item_forms;
      at_type = type_forms form;
      at_value = value_forms form;
      at_operation = operation_forms;
      at_choice = choice_forms;
      at_option = option_forms;
      at_struct = struct_forms form;
      at_member = member_forms;
      at_list = list_forms;
      at_linked = λ x. false;
    }

-- the form wherever it counts
abbrev pub seeking : Form → Steps told
seeking form = looking (is_sought_inside form) form

abbrev pub in_type : Form → ASN1Type → Position → Bool
in_type form = of_type (seeking form)

abbrev pub in_value : Form → ASN1Value → Bool
in_value form = of_value (seeking form)

abbrev pub in_constraint : Form → Constraint → Bool
in_constraint form = of_constraint (seeking form)

abbrev pub in_content : Form → ContentConstraint → Bool
in_content form = of_content (seeking form)

abbrev pub in_argument : Form → Parameter → Bool
in_argument form = of_parameter (seeking form)

abbrev pub in_element : Form → SubtypeElement → Bool
in_element form = of_element (seeking form)

-- a component that WITH COMPONENTS lists
abbrev pub in_component : Steps told → ConstrainedComponentOver Constraint → Bool
in_component steps c = is_any (map (of_constraint steps) c.constraints)

abbrev pub in_set : Form → ElementOrSetOperation → Bool
in_set form = of_set (seeking form)

abbrev pub in_operation : Form → SetOperation → Bool
in_operation form = of_operation (seeking form)

abbrev pub in_given : Form → InformationObjectField → Bool
in_given form = of_field (seeking form)

abbrev pub in_object : Form → InformationObjectFields → Bool
in_object form = of_fields (seeking form)

abbrev pub in_item : Form → SyntaxApplication → Bool
in_item form = of_item (seeking form)

-- an item of an object set
abbrev pub in_item_of_set : Form → ObjectSetValueOver InformationObjectFields → Bool
in_item_of_set form (Reference name) = false
in_item_of_set form (Inline fields) = in_object form fields

abbrev pub in_objects : Form → List (ObjectSetValueOver InformationObjectFields) → Bool
in_objects form items = is_any (map (in_item_of_set form) items)

abbrev pub in_member : Form → SequenceOrSetMember → Bool
in_member form = of_member (seeking form)

abbrev pub in_option : Form → ChoiceOption → Bool
in_option form = of_option (seeking form)

abbrev pub in_struct : Form → SequenceOrSet → Bool
in_struct form = of_struct (seeking form)

abbrev pub in_choice : Form → Choice → Bool
in_choice form = of_choice (seeking form)

abbrev pub in_list : Form → SequenceOrSetOf → Bool
in_list form = of_list (seeking form)

-- The form stands in the type, at any depth; a reference outside contents and tables.
unfoldable pub stands_in : Form → ASN1Type → Bool
stands_in form ty = in_type form ty Alone

-- The form stands in the type, at any depth outside contents and tables.
unfoldable pub stands_outside : Form → ASN1Type → Bool
stands_outside form ty = of_type (looking false form) ty Alone
