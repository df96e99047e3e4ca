-- Plain form: types and constraints in which nothing is left to be replaced.
use Rattle.std.specs.Prelude.{◌≡◌, ℕ, zero, suc, Bool, true, false, ◌&&◌, List, [], ◌∷◌, is_none, is_some, Option, Some, None, if◌then◌else◌}
use Rattle.std.specs.List.{list_all}
use Rattle.asn_tree.specs.Folds.{constant, of_value}
use Rattle.asn_tree.specs.declared.constraints.Constraint.{Constraint, Constraint-F, out-Constraint}
use Rattle.asn_tree.specs.declared.constraints.ElementOrSetOperation.{ElementOrSetOperation}
use Rattle.asn_tree.specs.declared.constraints.SubtypeElement.{SubtypeElement, SubtypeElement-F, out-SubtypeElement}
use Rattle.asn_tree.specs.declared.types.ASN1Type.{ASN1Type}
use Rattle.asn_tree.specs.declared.types.ChoiceOption.{ChoiceOption, out-ChoiceOption}
use Rattle.asn_tree.specs.declared.types.SequenceOrSetMember.{out-SequenceOrSetMember}
use Rattle.asn_tree.specs.declared.values.ASN1Value.{ASN1Value, ASN1Value-F}
use Rattle.asn_tree.specs.declared.values.LinkedField.{LinkedField-F}
use Rattle.asn_tree_kinds.specs.declared.values.StructLikeFieldValueOver.{StructLikeFieldValueOver}
use Rattle.asn_tree_kinds.specs.declared.values.StructLikeFieldValueOver.TheVariants.{Explicit, Implicit}
use Rattle.asn_tree_notation.specs.Types.{constraints_of}
use Rattle.asn_meaning.specs.Placed.{listed}
use Rattle.asn_meaning.specs.Accepts.{place}
use Rattle.asn_meaning.specs.Answers.{once}
use Rattle.asn_meaning.specs.Braces.{elements_written, fields_written}
use Rattle.asn_meaning.specs.Definitions.{Definitions}
use Rattle.asn_meaning.specs.Denotes.{item_in}
use Rattle.asn_meaning.specs.Everything.{plain_text}
use Rattle.asn_meaning.specs.Judge.{meaning}
use Rattle.asn_meaning.specs.Kinds.{Kind, BitStringKind, ChoiceKind, FieldKind, ListKind, ReferenceKind, SelectionKind, StructKind, kind_of, kind_of_type}
use Rattle.asn_meaning.specs.Layers.{ConstraintLayer, ElementLayer, ListedLayer, MemberLayer, OptionLayer, StructLayer}
use Rattle.asn_meaning.specs.Meaning.{Meaning, Member}
use Rattle.asn_meaning.specs.Members.{element_place, member_named, member_place}
use Rattle.asn_meaning.specs.Names.{FieldType, Open, Fixed, class_field_type, option_named}
use Rattle.asn_meaning.specs.Ranges.{integer_named}
use Rattle.asn_meaning.specs.Scopes.{Scope, Empty, Place}
use Rattle.asn_meaning.specs.Shapes.{option_place}
use Rattle.asn_meaning.specs.Written.{NamedValues, Written, AlternativeWritten, NameWritten, as_written}

-- ---- value names

abbrev pub field_nameless : StructLikeFieldValueOver Bool → Bool
field_nameless (Explicit b) = b
field_nameless (Implicit b) = b

abbrev pub value_nameless : ASN1Value-F Bool Bool Bool Bool Bool Bool Bool Bool Bool Bool Bool Bool Bool Bool Bool Bool Bool → Bool
value_nameless ASN1Value-F.All = true
value_nameless ASN1Value-F.ASN1Value::Null = true
value_nameless (ASN1Value-F.ASN1Value::Boolean x) = true
value_nameless (ASN1Value-F.ASN1Value::Choice type name b) = b
value_nameless (ASN1Value-F.SequenceOrSet items) = list_all (λ item. item.1) items
value_nameless (ASN1Value-F.ASN1Value::Integer i) = true
value_nameless (ASN1Value-F.ASN1Value::Real x) = true
value_nameless (ASN1Value-F.String s) = true
value_nameless (ASN1Value-F.ASN1Value::BitString bits) = true
value_nameless (ASN1Value-F.BitStringNamedBits names) = true
value_nameless (ASN1Value-F.ASN1Value::OctetString octets) = true
value_nameless (ASN1Value-F.EnumeratedValue type name) = true
value_nameless (ASN1Value-F.ASN1Value::Time s) = true
value_nameless (ASN1Value-F.ElsewhereDeclaredValue parent name) = false
value_nameless (ASN1Value-F.ASN1Value::ObjectIdentifier x) = true
value_nameless (ASN1Value-F.LinkedNestedValue supertypes b) = b
value_nameless (ASN1Value-F.LinkedIntValue kind i) = true
value_nameless (ASN1Value-F.LinkedStructLikeValue bs) = list_all (λ b. b) bs
value_nameless (ASN1Value-F.LinkedArrayLikeValue bs) = list_all (λ b. b) bs
value_nameless (ASN1Value-F.LinkedCharStringValue kind s) = true
value_nameless (ASN1Value-F.LinkedElsewhereDefinedValue parent name can_be_const) = false

abbrev pub linked_nameless : LinkedField-F Bool Bool Bool Bool Bool Bool Bool Bool Bool Bool Bool Bool Bool Bool Bool Bool Bool → Bool
linked_nameless x = field_nameless x.value

-- no name stands in the value at any depth
unfoldable pub is_nameless : ASN1Value → Bool
is_nameless = of_value (record (constant true) { at_value = value_nameless; at_linked = linked_nameless })

-- ---- one step

-- what is found plain within a number of steps: types, values under a type, elements of a constraint on a head
pub record Plainness : Type 0 where
  pub of_type : ASN1Type → Bool
  pub of_value : ASN1Value → Place → Bool
  pub of_element : Place → SubtypeElement → Bool

abbrev pub fields_plain : Plainness → List Member → NamedValues → Bool
fields_plain P ms fs = list_all (λ f. once false (member_named ms f.0) (λ m. P.of_value f.1 (member_place m))) fs

-- of a value without such parts: no name
abbrev pub choice_plain : Plainness → Scope → List ChoiceOption → ASN1Value → Written → Bool
choice_plain P inside options v (AlternativeWritten name inner) =
    once false (option_named options name) (λ o. P.of_value inner (option_place inside o))
choice_plain P inside options v _ = is_nameless v

abbrev pub struct_value_plain : Plainness → Option (List Member) → ASN1Value → Written → Bool
struct_value_plain P ms v w = once (is_nameless v) (fields_written w) (λ fs. once false ms (λ members. fields_plain P members fs))

abbrev pub list_value_plain : Plainness → Place → ASN1Value → Written → Bool
list_value_plain P p v w = once (is_nameless v) (elements_written w) (λ vs. list_all (λ x. P.of_value x p) vs)

-- An item stays by its name under its ENUMERATED; every other name is one of a value.
abbrev pub name_plain : Option (List ℕ) → List ℕ → Kind → Bool
name_plain None name kind = is_some (item_in name kind)
name_plain (Some parent) name kind = false

-- any other value, under a head of this kind that is read in `inside`; the names of bits stay
abbrev pub parts_of_value_plain : Meaning → Plainness → ASN1Value → Written → Scope → Kind → Bool
parts_of_value_plain M P v w inside (BitStringKind bits) = true
parts_of_value_plain M P v w inside (StructKind x) = struct_value_plain P (M.members inside x) v w
parts_of_value_plain M P v w inside (ListKind ty) = list_value_plain P (record { scope = inside; ty = ty }) v w
parts_of_value_plain M P v w inside (ChoiceKind options) = choice_plain P inside options v w
parts_of_value_plain M P v w inside _ = is_nameless v

abbrev pub value_plain_at : Meaning → Plainness → Scope → Kind → ASN1Value → Written → Bool
value_plain_at M P inside kind v (NameWritten parent name) = name_plain parent name kind
value_plain_at M P inside kind v w = parts_of_value_plain M P v w inside kind

abbrev pub value_plain : Meaning → Plainness → ASN1Value → Place → Bool
value_plain M P v p = once false (M.head p) (λ head. value_plain_at M P head.scope (kind_of head) v (as_written v))

-- the elements of a set, in a constraint on a head
abbrev pub set_plain : Meaning → Plainness → Place → ElementOrSetOperation → Bool
set_plain M P head set = once false (M.chain set) (λ c. P.of_element head c.first && list_all (λ x. P.of_element head x.1) c.others)

-- no argument list; contents and tables aside
abbrev pub constraint_plain : Meaning → Plainness → Place → ConstraintLayer → Bool
constraint_plain M P head (Constraint-F.SubtypeConstraint s) = set_plain M P head s.set
constraint_plain M P head (Constraint-F.TableConstraint table) = true
constraint_plain M P head (Constraint-F.Parameter arguments) = false
constraint_plain M P head (Constraint-F.ContentConstraint content) = true

-- constraints on a type; where there are none, its head is not asked for
abbrev pub constraints_plain : Meaning → Plainness → Place → List Constraint → Bool
constraints_plain M P p [] = true
constraints_plain M P p (c ∷ cs) = once false (M.head p) (λ head. list_all (λ d. constraint_plain M P head (out-Constraint d)) (c ∷ cs))

abbrev pub is_plain_name : Kind → Bool
is_plain_name (ReferenceKind x) = is_none x.parent
is_plain_name _ = false

-- no plain name at the head of a contained subtype
abbrev pub contained_plain : Plainness → ASN1Type → Bool
contained_plain P ty = if is_plain_name (kind_of_type ty) then false else P.of_type ty

abbrev pub end_plain : Plainness → Place → Option ASN1Value → Bool
end_plain P head None = true
end_plain P head (Some v) = P.of_value v head

-- the type of the part that WITH COMPONENTS lists, under a head of this kind that is read in `inside`
abbrev pub listed_place : Meaning → List ℕ → Scope → Kind → Option Place
listed_place M name inside (StructKind x) = once None (M.members inside x) (λ ms. once None (member_named ms name) (λ m. Some (member_place m)))
listed_place M name inside (ChoiceKind options) = once None (option_named options name) (λ o. Some (option_place inside o))
listed_place M name inside _ = None

abbrev pub inner_plain : Meaning → Plainness → Place → ListedLayer → Bool
inner_plain M P head c = once false (listed_place M c.identifier head.scope (kind_of head)) (λ p. constraints_plain M P p c.constraints)

abbrev pub element_plain : Meaning → Plainness → Place → ElementLayer → Bool
element_plain M P head (SubtypeElement-F.SingleValue v extensible) = P.of_value v head
element_plain M P head (SubtypeElement-F.ContainedSubtype ty extensible) = contained_plain P ty
element_plain M P head (SubtypeElement-F.ValueRange low high low_open high_open extensible) = end_plain P head low && end_plain P head high
element_plain M P head (SubtypeElement-F.PermittedAlphabet set) = set_plain M P plain_text set
element_plain M P head (SubtypeElement-F.SizeConstraint set) = set_plain M P (integer_named None) set
element_plain M P head (SubtypeElement-F.TypeConstraint ty) = contained_plain P ty
element_plain M P head (SubtypeElement-F.SingleTypeConstraint cs) = once false (element_place head) (λ p. constraints_plain M P p cs)
element_plain M P head (SubtypeElement-F.MultipleTypeConstraints inner) = list_all (inner_plain M P head) inner.constraints
element_plain M P head (SubtypeElement-F.PatternConstraint x) = true
element_plain M P head (SubtypeElement-F.UserDefinedConstraint x) = true
element_plain M P head (SubtypeElement-F.PropertySettings x) = true

abbrev pub member_plain : Meaning → Plainness → MemberLayer → Bool
member_plain M P m = P.of_type m.ty && constraints_plain M P (place Empty m.ty) m.constraints

abbrev pub option_plain : Meaning → Plainness → OptionLayer → Bool
option_plain M P o = P.of_type o.ty && constraints_plain M P (place Empty o.ty) o.constraints

-- no COMPONENTS OF
abbrev pub struct_plain : Meaning → Plainness → StructLayer → Bool
struct_plain M P x = elim x.components_of [ [] ↦ list_all (λ m. member_plain M P (out-SequenceOrSetMember m)) x.members | name ∷ names ↦ false ]

-- no class's field of fixed type
abbrev pub is_open_field : Option FieldType → Bool
is_open_field None = true
is_open_field (Some Open) = true
is_open_field (Some (Fixed ty)) = false

-- no selection; the parts are plain
abbrev pub parts_plain : Definitions → Meaning → Plainness → Kind → Bool
parts_plain defs M P (StructKind x) = struct_plain M P x
parts_plain defs M P (ListKind ty) = P.of_type ty
parts_plain defs M P (ChoiceKind options) = list_all (λ o. option_plain M P (out-ChoiceOption o)) options
parts_plain defs M P (FieldKind x) = is_open_field (class_field_type defs Empty x)
parts_plain defs M P (SelectionKind x) = false
parts_plain defs M P _ = true

abbrev pub type_plain : Definitions → Meaning → Plainness → ASN1Type → Bool
type_plain defs M P ty = parts_plain defs M P (kind_of_type ty) && constraints_plain M P (place Empty ty) (listed (constraints_of ty))

-- ---- steps

unfoldable pub plainness : Definitions → ℕ → Plainness
plainness defs zero = record { of_type = λ ty. false; of_value = λ v p. false; of_element = λ head e. false }
plainness defs (suc n) =
    record {
      of_type = type_plain defs (meaning defs n) (plainness defs n);
      of_value = value_plain (meaning defs n) (plainness defs n);
      of_element = λ head e. element_plain (meaning defs n) (plainness defs n) head (out-SubtypeElement e);
    }

-- Plain form, found within some number of steps: outside contents and tables, at every depth, no argument list, no
-- COMPONENTS OF, no selection, no class's field of fixed type, no value name in a constraint, and no plain name at the head
-- of a contained subtype.
abbrev pub IsPlain : Definitions → ASN1Type → Type 0
IsPlain defs ty = (n : ℕ) × ((plainness defs n).of_type ty ≡ true)

-- the same of the constraints on a type
abbrev pub ArePlain : Definitions → ASN1Type → List Constraint → Type 0
ArePlain defs ty cs = (n : ℕ) × (constraints_plain (meaning defs n) (plainness defs n) (place Empty ty) cs ≡ true)
