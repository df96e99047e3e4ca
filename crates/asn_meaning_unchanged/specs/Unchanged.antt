-- What linking leaves as it is, told of a definition by its form alone: nothing in it is put in from elsewhere.
use Rattle.std.specs.Prelude.{ℕ, List, [], ◌∷◌, Bool, true, false, ◌&&◌, Option, Some, None, is_none, map, if◌then◌else◌}
use Rattle.asn_tree_headers.specs.declared.headers.ObjectIdentifierArc.{ObjectIdentifierArc}
use Rattle.asn_tree.specs.Folds.{Steps, of_choice, of_constraint, of_element, of_list, of_member, of_operation, of_option, of_set, of_struct, of_type, of_value}
use Rattle.asn_tree.specs.Layers.{Carriers, all, ChoiceOver, ConstraintOver, ElementOver, ListOver, MemberOver, OperationOver, OptionOver, SetOver, StructOver, TypeOver, ValueOver}
use Rattle.asn_tree.specs.declared.constraints.Constraint.{Constraint, Constraint-F}
use Rattle.asn_tree.specs.declared.constraints.ElementOrSetOperation.{ElementOrSetOperation, ElementOrSetOperation-F}
use Rattle.asn_tree.specs.declared.constraints.SetOperation.{SetOperation}
use Rattle.asn_tree.specs.declared.constraints.SubtypeElement.{SubtypeElement, SubtypeElement-F}
use Rattle.asn_tree.specs.declared.definitions.ToplevelDefinition.{ToplevelDefinition}
use Rattle.asn_tree.specs.declared.definitions.ToplevelDefinition.TheVariants.{TypeDef, Value, Information}
use Rattle.asn_tree.specs.declared.types.ASN1Type.{ASN1Type, ASN1Type-F}
use Rattle.asn_tree.specs.declared.types.Choice.{Choice}
use Rattle.asn_tree.specs.declared.types.ChoiceOption.{ChoiceOption}
use Rattle.asn_tree.specs.declared.types.SequenceOrSet.{SequenceOrSet}
use Rattle.asn_tree.specs.declared.types.SequenceOrSetMember.{SequenceOrSetMember}
use Rattle.asn_tree.specs.declared.types.SequenceOrSetOf.{SequenceOrSetOf}
use Rattle.asn_tree.specs.declared.values.ASN1Value.{ASN1Value, ASN1Value-F}
use Rattle.asn_meaning_unchanged.specs.declared.literals.Literal.{Literal}
use Rattle.asn_meaning_unchanged.specs.declared.literals.Literal.TheVariants.{Single, Compound, Naming}
use Rattle.asn_meaning_unchanged.specs.declared.types.Linking.{Linking}
use Rattle.asn_meaning_unchanged.specs.declared.types.Linking.TheVariants.{Stays, PlainName, Changes}

-- what is told of each type of tree: of a value what it is made of, of a type what linking does to it, of any other whether
-- linking leaves it as it is
abbrev pub forms : Carriers
forms = record (all Bool) { for_value = Literal; for_type = Linking }

-- the first is true, and all of these are
abbrev pub all_behind : Bool → List Bool → Bool
all_behind b [] = b
all_behind b (c ∷ cs) = all_behind (b && c) cs

abbrev pub are_all : List Bool → Bool
are_all bs = all_behind true bs

abbrev pub has_none : {A : Type 0} → List A → Bool
has_none [] = true
has_none (x ∷ xs) = false

-- ---- values

-- in braces, or behind the name of an alternative
abbrev pub braced : Literal → Literal
braced Single = Compound
braced Compound = Compound
braced Naming = Naming

-- items in braces, and one more
abbrev pub with_item : Literal → Literal → Literal
with_item Single item = braced item
with_item Compound item = braced item
with_item Naming item = Naming

abbrev pub with_items : Literal → List Literal → Literal
with_items items [] = items
with_items items (item ∷ more) = with_items (with_item items item) more

-- arcs of an object identifier, and one more: a name among them may be that of a value (X.680 32.3)
abbrev pub with_arc : Literal → ObjectIdentifierArc → Literal
with_arc arcs arc = if is_none arc.name then arcs else Naming

abbrev pub with_arcs : Literal → List ObjectIdentifierArc → Literal
with_arcs arcs [] = arcs
with_arcs arcs (arc ∷ more) = with_arcs (with_arc arcs arc) more

abbrev pub bare_arcs : List ObjectIdentifierArc → Literal
bare_arcs arcs = with_arcs Compound arcs

-- what linking made of a value is no literal
abbrev pub value_form : ValueOver forms → Literal
value_form ASN1Value-F.All = Single
value_form ASN1Value-F.ASN1Value::Null = Single
value_form (ASN1Value-F.ASN1Value::Boolean b) = Single
value_form (ASN1Value-F.ASN1Value::Choice type name inner) = braced inner
value_form (ASN1Value-F.SequenceOrSet parts) = with_items Compound (map (λ p. p.1) parts)
value_form (ASN1Value-F.ASN1Value::Integer i) = Single
value_form (ASN1Value-F.ASN1Value::Real r) = Single
value_form (ASN1Value-F.String text) = Single
value_form (ASN1Value-F.ASN1Value::BitString bits) = Single
value_form (ASN1Value-F.BitStringNamedBits names) = Naming
value_form (ASN1Value-F.ASN1Value::OctetString octets) = Single
value_form (ASN1Value-F.EnumeratedValue type name) = Naming
value_form (ASN1Value-F.ASN1Value::Time text) = Single
value_form (ASN1Value-F.ElsewhereDeclaredValue parent name) = Naming
value_form (ASN1Value-F.ASN1Value::ObjectIdentifier arcs) = bare_arcs arcs.0
value_form (ASN1Value-F.LinkedNestedValue supertypes v) = Naming
value_form (ASN1Value-F.LinkedIntValue kind i) = Naming
value_form (ASN1Value-F.LinkedStructLikeValue fields) = Naming
value_form (ASN1Value-F.LinkedArrayLikeValue vs) = Naming
value_form (ASN1Value-F.LinkedCharStringValue kind text) = Naming
value_form (ASN1Value-F.LinkedElsewhereDefinedValue parent name can_be_const) = Naming

abbrev pub is_single : Literal → Bool
is_single Single = true
is_single Compound = false
is_single Naming = false

abbrev pub is_literal : Literal → Bool
is_literal Single = true
is_literal Compound = true
is_literal Naming = false

-- ---- constraints: an end of a range and a single value are one literal each, since parts of a value are read under the parts of
-- the constrained type; so WITH COMPONENT and WITH COMPONENTS are changed too (X.680 51)

abbrev pub end_form : Option Literal → Bool
end_form None = true
end_form (Some v) = is_single v

-- no plain name at the head of a contained subtype
abbrev pub contained_form : Linking → Bool
contained_form Stays = true
contained_form PlainName = false
contained_form Changes = false

abbrev pub element_form : ElementOver forms → Bool
element_form (SubtypeElement-F.SingleValue v extensible) = is_single v
element_form (SubtypeElement-F.ContainedSubtype ty extensible) = contained_form ty
element_form (SubtypeElement-F.ValueRange low high low_open high_open extensible) = end_form low && end_form high
element_form (SubtypeElement-F.PermittedAlphabet set) = set
element_form (SubtypeElement-F.SizeConstraint set) = set
element_form (SubtypeElement-F.TypeConstraint ty) = contained_form ty
element_form (SubtypeElement-F.SingleTypeConstraint cs) = false
element_form (SubtypeElement-F.MultipleTypeConstraints inner) = false
element_form (SubtypeElement-F.PatternConstraint x) = true
element_form (SubtypeElement-F.UserDefinedConstraint x) = true
element_form (SubtypeElement-F.PropertySettings x) = true

abbrev pub set_form : SetOver forms → Bool
set_form (ElementOrSetOperation-F.Element e) = e
set_form (ElementOrSetOperation-F.SetOperation o) = o

abbrev pub operation_form : OperationOver forms → Bool
operation_form o = o.base && o.operant

-- no argument list; contents and tables aside
abbrev pub constraint_form : ConstraintOver forms → Bool
constraint_form (Constraint-F.SubtypeConstraint s) = s.set
constraint_form (Constraint-F.TableConstraint table) = true
constraint_form (Constraint-F.Parameter arguments) = false
constraint_form (Constraint-F.ContentConstraint content) = true

-- ---- types

abbrev pub stays_if : Bool → Linking
stays_if b = if b then Stays else Changes

-- a built-in type with these constraints
abbrev pub constrained : List Bool → Linking
constrained cs = stays_if (are_all cs)

-- a plain name, and no constraint behind it
abbrev pub reference_form : Option (List ℕ) → List Bool → Linking
reference_form parent cs = if is_none parent && has_none cs then PlainName else Changes

-- no selection, no class's field, no field of an object
abbrev pub type_form : TypeOver forms → Linking
type_form ASN1Type-F.ASN1Type::Null = Stays
type_form (ASN1Type-F.ASN1Type::Boolean t) = constrained t.constraints
type_form (ASN1Type-F.ASN1Type::Integer t) = constrained t.constraints
type_form (ASN1Type-F.ASN1Type::Real t) = constrained t.constraints
type_form (ASN1Type-F.ASN1Type::BitString t) = constrained t.constraints
type_form (ASN1Type-F.ASN1Type::OctetString t) = constrained t.constraints
type_form (ASN1Type-F.CharacterString t) = constrained t.constraints
type_form (ASN1Type-F.Enumerated t) = constrained t.constraints
type_form (ASN1Type-F.ASN1Type::Choice c) = stays_if c
type_form (ASN1Type-F.Sequence s) = stays_if s
type_form (ASN1Type-F.SequenceOf l) = stays_if l
type_form (ASN1Type-F.Set s) = stays_if s
type_form (ASN1Type-F.SetOf l) = stays_if l
type_form (ASN1Type-F.ASN1Type::Time t) = constrained t.constraints
type_form (ASN1Type-F.GeneralizedTime t) = constrained t.constraints
type_form (ASN1Type-F.UTCTime t) = constrained t.constraints
type_form (ASN1Type-F.ElsewhereDeclaredType r) = reference_form r.parent r.constraints
type_form (ASN1Type-F.ChoiceSelectionType s) = Changes
type_form (ASN1Type-F.ASN1Type::ObjectIdentifier t) = constrained t.constraints
type_form (ASN1Type-F.InformationObjectFieldReference f) = Changes
type_form ASN1Type-F.EmbeddedPdv = Stays
type_form ASN1Type-F.External = Stays

-- linking does not change the type
abbrev pub is_left : Linking → Bool
is_left Stays = true
is_left PlainName = true
is_left Changes = false

-- a type with the constraints of its place: none behind a plain name
abbrev pub placed_form : Linking → List Bool → Bool
placed_form Stays cs = are_all cs
placed_form PlainName cs = has_none cs
placed_form Changes cs = false

abbrev pub default_form : Option Literal → Bool
default_form None = true
default_form (Some v) = is_literal v

abbrev pub member_form : MemberOver forms → Bool
member_form m = placed_form m.ty m.constraints && default_form m.default_value

abbrev pub option_form : OptionOver forms → Bool
option_form o = placed_form o.ty o.constraints

-- no COMPONENTS OF
abbrev pub struct_form : StructOver forms → Bool
struct_form s = (has_none s.components_of && are_all s.members) && are_all s.constraints

abbrev pub choice_form : ChoiceOver forms → Bool
choice_form c = are_all c.options && are_all c.constraints

abbrev pub list_form : ListOver forms → Bool
list_form l = is_left l.element_type && are_all l.constraints

-- ---- all trees

abbrev pub telling : Steps forms
telling =
    record {
      at_constraint = constraint_form;
      at_content = λ x. true;
      at_set = set_form;
      at_parameter = λ x. false;
      at_element = element_form;
      at_field = λ x. false;
      at_fields = λ x. false;
      at_item = λ x. false;
      at_type = type_form;
      at_value = value_form;
      at_operation = operation_form;
      at_choice = choice_form;
      at_option = option_form;
      at_struct = struct_form;
      at_member = member_form;
      at_list = list_form;
      at_linked = λ x. false;
    }

abbrev pub literal : ASN1Value → Literal
literal = of_value telling

abbrev pub braced_items : List (Option (List ℕ) × ASN1Value) → Literal
braced_items parts = with_items Compound (map (λ p. literal p.1) parts)

abbrev pub linking : ASN1Type → Linking
linking = of_type telling

abbrev pub constraint_stays : Constraint → Bool
constraint_stays = of_constraint telling

abbrev pub element_stays : SubtypeElement → Bool
element_stays = of_element telling

abbrev pub set_stays : ElementOrSetOperation → Bool
set_stays = of_set telling

abbrev pub operation_stays : SetOperation → Bool
operation_stays = of_operation telling

abbrev pub member_stays : SequenceOrSetMember → Bool
member_stays = of_member telling

abbrev pub option_stays : ChoiceOption → Bool
option_stays = of_option telling

abbrev pub struct_stays : SequenceOrSet → Bool
struct_stays = of_struct telling

abbrev pub choice_stays : Choice → Bool
choice_stays = of_choice telling

abbrev pub list_stays : SequenceOrSetOf → Bool
list_stays = of_list telling

-- ---- definitions

-- A type definition without parameters whose type linking leaves as it is.
unfoldable pub is_unchanged : ToplevelDefinition → Bool
is_unchanged (TypeDef d) = is_none d.parameterization && is_left (linking d.ty)
is_unchanged (Value d) = false
is_unchanged (Information d) = false
