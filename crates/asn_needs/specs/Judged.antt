-- The fifth, sixth and seventh fault, as they stand at a place or in a type: custom syntax, values without a tree, ranges.
use Rattle.std.specs.Prelude.{ℕ, zero, suc, List, [], ◌∷◌, Bool, true, false, ℤ, int_lt, Option, Some, None, is_none, ◌||◌, ◌&&◌, not, if◌then◌else◌}
use Rattle.std.specs.List.{list_any}
use Rattle.asn_tree.specs.declared.constraints.Constraint.{Constraint, Constraint-F, out-Constraint}
use Rattle.asn_tree.specs.declared.constraints.ElementOrSetOperation.{ElementOrSetOperation-F, out-ElementOrSetOperation}
use Rattle.asn_tree.specs.declared.constraints.SubtypeElement.{SubtypeElement-F, out-SubtypeElement}
use Rattle.asn_tree.specs.declared.objects.InformationObjectClass.{InformationObjectClass}
use Rattle.asn_tree.specs.declared.objects.InformationObjectFields.{out-InformationObjectFields}
use Rattle.asn_tree.specs.declared.values.ASN1Value.{ASN1Value}
use Rattle.asn_tree.specs.Layers.{SetLayer}
use Rattle.asn_meaning.specs.Answers.{Answer, Yes, No, Unknown, once, Denotation, Denoted, Nothing, Unsure}
use Rattle.asn_meaning.specs.Definitions.{Definitions}
use Rattle.asn_meaning.specs.Kinds.{Kind, BitStringKind, CharacterStringKind, FieldKind, IntegerKind, ReferenceKind, SelectionKind, kind_of}
use Rattle.asn_meaning.specs.Layers.{ConstraintLayer, ElementLayer, FieldsLayer}
use Rattle.asn_meaning.specs.Meaning.{Meaning, ValuesOf}
use Rattle.asn_meaning.specs.Names.{Lead, IsHead, LeadsTo, IsLost, lead}
use Rattle.asn_meaning.specs.Objects.{given_at}
use Rattle.asn_meaning.specs.Ranges.{end_denoted, integer_of}
use Rattle.asn_meaning.specs.Scopes.{Scope, Place}
use Rattle.asn_meaning.specs.ValueTrees.{ValueTree}
use Rattle.asn_needs.specs.Dummies.{is_class_name, is_dummy}
use Rattle.asn_needs.specs.Occurrences.{has_list}
use Rattle.asn_needs.specs.PartsOfObjects.{items_name}
use Rattle.asn_needs.specs.PartsOfTypes.{own_constraints}
use Rattle.asn_needs.specs.Sites.{Seen, Site, Form, ValuePlace, AsSuch, AsEnd, AsBound, AsSingle, Inside, AType, ComponentsOf, AValue, AConstraint, ASet, AnElement, AListed, LooseList, AnArgument, NoArgument, LooseArgument, ADummy, ClassName, ClassField, AnObject, GivenField, LooseField, AnObjectSet, SetName}

-- ---- objects in custom syntax

-- An object's items in custom syntax find no syntax in its class or do not follow it; in both cases the first item names no
-- object or set. An object without a class has no syntax to follow yet.
abbrev pub mismatches : Definitions → Option InformationObjectClass → FieldsLayer → Bool
mismatches defs None fields = false
mismatches defs (Some c) fields = is_none (given_at (Some c) fields) && is_none (items_name defs fields)

abbrev pub syntax_mismatched_at : Seen → Form → Bool
syntax_mismatched_at S (AType at ty behind) = false
syntax_mismatched_at S (ComponentsOf name) = false
syntax_mismatched_at S (AValue at v p) = false
syntax_mismatched_at S (AConstraint c p) = false
syntax_mismatched_at S (ASet asked set p) = false
syntax_mismatched_at S (AnElement asked e p) = false
syntax_mismatched_at S (AListed c p) = false
syntax_mismatched_at S LooseList = false
syntax_mismatched_at S (AnArgument p dummy inner) = false
syntax_mismatched_at S NoArgument = false
syntax_mismatched_at S (LooseArgument p) = false
syntax_mismatched_at S (ADummy dummy) = false
syntax_mismatched_at S (ClassName name) = false
syntax_mismatched_at S (ClassField at f) = false
syntax_mismatched_at S (AnObject c fields) = mismatches S.defs c (out-InformationObjectFields fields)
syntax_mismatched_at S (GivenField c f) = false
syntax_mismatched_at S (LooseField f) = false
syntax_mismatched_at S (AnObjectSet c set) = false
syntax_mismatched_at S (SetName name) = false

abbrev pub syntax_mismatched : Seen → Site → Bool
syntax_mismatched S s = syntax_mismatched_at S s.form

-- ---- values without a tree

abbrev pub is_nothing : Denotation ValueTree → Bool
is_nothing Nothing = true
is_nothing (Denoted t) = false
is_nothing Unsure = false

abbrev pub is_denoted : Denotation ValueTree → Bool
is_denoted Nothing = false
is_denoted (Denoted t) = true
is_denoted Unsure = false

abbrev pub is_yes : Answer → Bool
is_yes Yes = true
is_yes No = false
is_yes Unknown = false

-- The ends of a range are read as whole numbers with the type's named numbers, and under the constrained type where that
-- gives none (X.680 51.4). ALL as a single value is no value, nor is what stands for it.
abbrev pub is_excused : Seen → Site → ValuePlace → ASN1Value → Place → Bool
is_excused S s AsSuch v p = false
is_excused S s AsEnd v p = once false (S.known.head p) (λ head. is_denoted (S.known.denotes s.scope v (integer_of head)))
is_excused S s AsBound v p = false
is_excused S s AsSingle v p = is_yes (S.known.is_all s.scope v p)
is_excused S s Inside v p = true

abbrev pub value_untreed : Seen → Site → ValuePlace → ASN1Value → Option Place → Bool
value_untreed S s at v None = false
value_untreed S s at v (Some p) =
    not (is_class_name S.defs p) && (is_nothing (S.known.denotes s.scope v p) && not (is_excused S s at v p))

abbrev pub untreed_at : Seen → Site → Form → Bool
untreed_at S s (AType at ty behind) = false
untreed_at S s (ComponentsOf name) = false
untreed_at S s (AValue at v p) = value_untreed S s at v p
untreed_at S s (AConstraint c p) = false
untreed_at S s (ASet asked set p) = false
untreed_at S s (AnElement asked e p) = false
untreed_at S s (AListed c p) = false
untreed_at S s LooseList = false
untreed_at S s (AnArgument p dummy inner) = false
untreed_at S s NoArgument = false
untreed_at S s (LooseArgument p) = false
untreed_at S s (ADummy dummy) = false
untreed_at S s (ClassName name) = false
untreed_at S s (ClassField at f) = false
untreed_at S s (AnObject c fields) = false
untreed_at S s (GivenField c f) = false
untreed_at S s (LooseField f) = false
untreed_at S s (AnObjectSet c set) = false
untreed_at S s (SetName name) = false

-- A value denotes none: in a value definition, a default, an object's field, an argument under its governor, or a constraint.
-- Contents and tables are not judged.
abbrev pub untreed : Seen → Site → Bool
untreed S s = not s.is_opaque && untreed_at S s s.form

-- ---- ranges whose ends are reversed

-- constraints, and the scope that they are read in
pub record Along : Type 0 where
  pub scope : Scope
  pub constraints : List Constraint

-- a type at which a replacement ends, and the constraints on the way to it
pub record Replaced : Type 0 where
  pub place : Place
  pub along : List Along

-- Argument lists, selections and fields of classes are followed; a dummy is its argument. Other plain names and fields of
-- objects stay.
abbrev pub is_replaced_at : Scope → Kind → Bool
is_replaced_at scope (ReferenceKind x) = is_none x.parent && (is_dummy scope x.identifier || has_list x)
is_replaced_at scope (SelectionKind x) = true
is_replaced_at scope (FieldKind x) = true
is_replaced_at scope _ = false

abbrev pub own_along : Place → List Along → List Along
own_along p others = record { scope = p.scope; constraints = own_constraints p.ty } ∷ others

abbrev pub replaced_by_lead : (Place → List Along → Replaced) → Place → List Along → Lead → Replaced
replaced_by_lead f p along (LeadsTo x) = f x.place (record { scope = x.place.scope; constraints = x.constraints } ∷ own_along p along)
replaced_by_lead f p along IsHead = record { place = p; along = own_along p along }
replaced_by_lead f p along IsLost = record { place = p; along = own_along p along }

abbrev pub replaced : Definitions → Meaning → ℕ → Place → List Along → Replaced
replaced defs M zero p along = record { place = p; along = own_along p along }
replaced defs M (suc n) p along =
    if is_replaced_at p.scope (kind_of p) then replaced_by_lead (replaced defs M n) p along (lead defs M p)
    else record { place = p; along = own_along p along }

abbrev pub has_ranges : Kind → Bool
has_ranges (IntegerKind numbers) = true
has_ranges (BitStringKind bits) = true
has_ranges (CharacterStringKind ty) = true
has_ranges _ = false

abbrev pub is_above : Denotation ℤ → Denotation ℤ → Bool
is_above (Denoted low) (Denoted high) = int_lt high low
is_above _ _ = false

abbrev pub reversed_ends : Meaning → Scope → Place → Option ASN1Value → Option ASN1Value → Bool
reversed_ends M scope head (Some low) (Some high) = is_above (end_denoted M scope (ValuesOf head None) low) (end_denoted M scope (ValuesOf head None) high)
reversed_ends M scope head _ _ = false

abbrev pub reversed_element : Meaning → Scope → Place → ElementLayer → Bool
reversed_element M scope head (SubtypeElement-F.SingleValue v extensible) = false
reversed_element M scope head (SubtypeElement-F.ContainedSubtype ty extensible) = false
reversed_element M scope head (SubtypeElement-F.ValueRange low high low_open high_open extensible) = reversed_ends M scope head low high
reversed_element M scope head (SubtypeElement-F.PermittedAlphabet set) = false
reversed_element M scope head (SubtypeElement-F.SizeConstraint set) = false
reversed_element M scope head (SubtypeElement-F.TypeConstraint ty) = false
reversed_element M scope head (SubtypeElement-F.SingleTypeConstraint cs) = false
reversed_element M scope head (SubtypeElement-F.MultipleTypeConstraints inner) = false
reversed_element M scope head (SubtypeElement-F.PatternConstraint x) = false
reversed_element M scope head (SubtypeElement-F.UserDefinedConstraint x) = false
reversed_element M scope head (SubtypeElement-F.PropertySettings x) = false

abbrev pub reversed_set : Meaning → Scope → Place → SetLayer → Bool
reversed_set M scope head (ElementOrSetOperation-F.Element e) = reversed_element M scope head (out-SubtypeElement e)
reversed_set M scope head (ElementOrSetOperation-F.SetOperation x) = false

abbrev pub reversed_constraint : Meaning → Scope → Place → ConstraintLayer → Bool
reversed_constraint M scope head (Constraint-F.SubtypeConstraint x) = reversed_set M scope head (out-ElementOrSetOperation x.set)
reversed_constraint M scope head (Constraint-F.TableConstraint x) = false
reversed_constraint M scope head (Constraint-F.Parameter arguments) = false
reversed_constraint M scope head (Constraint-F.ContentConstraint c) = false

abbrev pub reversed_along : Meaning → Place → Along → Bool
reversed_along M head a = list_any (λ c. reversed_constraint M a.scope head (out-Constraint c)) a.constraints

abbrev pub is_reversed_by : Meaning → Replaced → Bool
is_reversed_by M r = has_ranges (kind_of r.place) && list_any (reversed_along M r.place) r.along

-- The type is INTEGER, BIT STRING or a character string once argument lists, selections and fields of classes are followed,
-- and one of its constraints is a single range whose ends denote whole numbers, the lower above the upper.
abbrev pub is_reversed : Seen → Place → Bool
is_reversed S p = is_reversed_by S.known (replaced S.defs S.known S.steps p [])
