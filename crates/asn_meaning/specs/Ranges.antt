-- Single values, ranges, and the whole numbers that constraints leave (X.680 51.2, 51.4).
use Rattle.std.specs.Prelude.{ℕ, Bool, true, false, List, [], ◌∷◌, ◌++◌, map, ℤ, pos, Option, Some, None, if◌then◌else◌}
use Rattle.std.specs.List.{list_any}
use Rattle.asn_tree.specs.declared.constraints.Constraint.{Constraint, Constraint-F, out-Constraint}
use Rattle.asn_tree.specs.declared.constraints.ElementOrSetOperation.{ElementOrSetOperation}
use Rattle.asn_tree.specs.declared.constraints.SubtypeElement.{SubtypeElement-F, out-SubtypeElement}
use Rattle.asn_tree_leaves.specs.declared.plain.CharacterStringType.{CharacterStringType}
use Rattle.asn_tree_leaves.specs.declared.plain.CharacterStringType.TheVariants.{NumericString, PrintableString, VisibleString, IA5String, TeletexString, VideotexString, GraphicString, GeneralString, UniversalString, UTF8String, BMPString}
use Rattle.asn_tree.specs.declared.types.ASN1Type.TheVariants as type_of_kind
use Rattle.asn_tree_kinds.specs.declared.types.DistinguishedValue.{DistinguishedValue}
use Rattle.asn_tree.specs.declared.values.ASN1Value.{ASN1Value}
use Rattle.asn_tree_notation.specs.Strings.{characters}
use Rattle.asn_tree_notation.specs.Types.{constraints_of}
use Rattle.asn_meaning.specs.Placed.{listed}
use Rattle.asn_meaning.specs.Answers.{once, unless_all, Denotation, Denoted, Nothing, Unsure}
use Rattle.asn_meaning.specs.Definitions.{Definitions}
use Rattle.asn_meaning.specs.Everything.{plain_text}
use Rattle.asn_meaning.specs.Kinds.{Kind, NullKind, BooleanKind, IntegerKind, RealKind, BitStringKind, OctetStringKind, CharacterStringKind, TimeKind, EnumeratedKind, ObjectIdentifierKind, OpaqueKind, StructKind, ListKind, ChoiceKind, FieldKind, ReferenceKind, SelectionKind, kind_of}
use Rattle.asn_meaning.specs.Layers.{ConstraintLayer, ElementLayer}
use Rattle.asn_meaning.specs.Meaning.{Meaning, Parent, ValuesOf, CharactersOf}
use Rattle.asn_meaning.specs.Names.{Lead, IsHead, LeadsTo, IsLost, lead}
use Rattle.asn_meaning.specs.Numbers.{Numbers, every_number, no_number, one_number, numbers_from, numbers_to, in_both, above_least, below_greatest, lifted, ranked, number_sets}
use Rattle.asn_meaning.specs.Scopes.{Scope, Empty, Place}
use Rattle.asn_meaning.specs.ValueTrees.{ValueTree, WholeNumber, Characters, same_number}

-- ---- the codes of characters

-- the characters of the types that have a set of their own (X.680 41)
abbrev pub restricted : CharacterStringType → Option (List ℕ)
restricted NumericString = Some (characters NumericString)
restricted PrintableString = Some (characters PrintableString)
restricted VisibleString = Some (characters VisibleString)
restricted IA5String = Some (characters IA5String)
restricted TeletexString = None
restricted VideotexString = None
restricted GraphicString = None
restricted GeneralString = None
restricted UniversalString = None
restricted UTF8String = None
restricted BMPString = None

abbrev pub numbers_among : List ℕ → Numbers
numbers_among codes = record { has = λ i. list_any (λ c. same_number (pos c) i) codes; turns = map pos codes }

-- 0 to 65534, where a type has no set of its own
abbrev pub basic_plane : Numbers
basic_plane = in_both (numbers_from false (pos 0)) (numbers_to false (pos 65534))

abbrev pub codes_in : Option (List ℕ) → Numbers
codes_in None = basic_plane
codes_in (Some codes) = numbers_among codes

abbrev pub codes_at : Kind → Numbers
codes_at (CharacterStringKind ty) = codes_in (restricted ty)
codes_at _ = basic_plane

-- the codes of the characters that a constraint on characters is put on
abbrev pub codes_of : Parent → Numbers
codes_of (ValuesOf head numbers) = codes_at (kind_of head)
codes_of (CharactersOf codes) = codes

-- ---- what values mean in a constraint

abbrev pub integer_named : Option (List DistinguishedValue) → Place
integer_named names = record { scope = Empty; ty = type_of_kind.Integer (record { constraints = []; distinguished_values = names }) }

abbrev pub named_numbers_in : Kind → Option (List DistinguishedValue)
named_numbers_in (IntegerKind numbers) = numbers
named_numbers_in _ = None

-- INTEGER with the named numbers of a head
abbrev pub integer_of : Place → Place
integer_of head = integer_named (named_numbers_in (kind_of head))

-- the type that single values are read under; in FROM every value is a text
abbrev pub value_place : Parent → Place
value_place (ValuesOf head numbers) = head
value_place (CharactersOf codes) = plain_text

-- the whole numbers of the parent, or the codes of its characters
abbrev pub numbers_of : Parent → Option Numbers
numbers_of (ValuesOf head numbers) = numbers
numbers_of (CharactersOf codes) = Some codes

abbrev pub whole_number : Denotation ValueTree → Denotation ℤ
whole_number (Denoted (WholeNumber i)) = Denoted i
whole_number Unsure = Unsure
whole_number _ = Nothing

abbrev pub one_character : Denotation ValueTree → Denotation ℤ
one_character (Denoted (Characters (c ∷ []))) = Denoted (pos c)
one_character Unsure = Unsure
one_character _ = Nothing

-- An end of a range: a whole number, read with the head's named numbers; in FROM a character, by its code.
abbrev pub end_denoted : Meaning → Scope → Parent → ASN1Value → Denotation ℤ
end_denoted M scope (ValuesOf head numbers) v = whole_number (M.denotes scope v (integer_of head))
end_denoted M scope (CharactersOf codes) v = one_character (M.denotes scope v plain_text)

-- ---- ranges

-- the numbers on one side of an end that is denoted; there are none where it denotes none
abbrev pub beside : (ℤ → Numbers) → Denotation ℤ → Option Numbers
beside f (Denoted i) = Some (f i)
beside f Nothing = Some no_number
beside f Unsure = None

-- MIN and MAX are the parent's ends: a mark beside them leaves out the numbers beyond which the parent has none.
abbrev pub parent_end : (Numbers → Numbers) → Bool → Option Numbers → Option Numbers
parent_end f false numbers = Some every_number
parent_end f true numbers = once None numbers (λ s. Some (f s))

abbrev pub from_low : Meaning → Scope → Parent → Bool → Option ASN1Value → Option Numbers
from_low M scope parent is_open None = parent_end above_least is_open (numbers_of parent)
from_low M scope parent is_open (Some v) = beside (numbers_from is_open) (end_denoted M scope parent v)

abbrev pub up_to_high : Meaning → Scope → Parent → Bool → Option ASN1Value → Option Numbers
up_to_high M scope parent is_open None = parent_end below_greatest is_open (numbers_of parent)
up_to_high M scope parent is_open (Some v) = beside (numbers_to is_open) (end_denoted M scope parent v)

-- The numbers of a range: those between its ends, an open end left out (X.680 51.4.2).
abbrev pub range : Meaning → Scope → Parent → Option ASN1Value → Option ASN1Value → Bool → Bool → Option Numbers
range M scope parent low high low_open high_open = lifted in_both (from_low M scope parent low_open low) (up_to_high M scope parent high_open high)

-- ---- the whole numbers that an element, a constraint and a type leave

abbrev pub number_of_tree : ValueTree → Numbers
number_of_tree (WholeNumber i) = one_number i
number_of_tree _ = no_number

abbrev pub number_denoted : Denotation ValueTree → Option Numbers
number_denoted (Denoted t) = Some (number_of_tree t)
number_denoted Nothing = Some no_number
number_denoted Unsure = None

-- the number of a single value
abbrev pub number_of_single : Meaning → Scope → Place → ASN1Value → Option Numbers
number_of_single M scope p v = unless_all (Some every_number) None (M.is_all scope v p) (number_denoted (M.denotes scope v p))

-- An element that does not fit whole numbers leaves none. Pattern, user text and settings leave all.
abbrev pub numbers_at_element : Meaning → Scope → Parent → ElementLayer → Option Numbers
numbers_at_element M scope parent (SubtypeElement-F.SingleValue v extensible) = number_of_single M scope (value_place parent) v
numbers_at_element M scope parent (SubtypeElement-F.ContainedSubtype ty extensible) = M.numbers (record { scope = scope; ty = ty }) []
numbers_at_element M scope parent (SubtypeElement-F.ValueRange low high low_open high_open extensible) = range M scope parent low high low_open high_open
numbers_at_element M scope parent (SubtypeElement-F.PermittedAlphabet set) = Some no_number
numbers_at_element M scope parent (SubtypeElement-F.SizeConstraint set) = Some no_number
numbers_at_element M scope parent (SubtypeElement-F.TypeConstraint ty) = M.numbers (record { scope = scope; ty = ty }) []
numbers_at_element M scope parent (SubtypeElement-F.SingleTypeConstraint cs) = Some no_number
numbers_at_element M scope parent (SubtypeElement-F.MultipleTypeConstraints inner) = Some no_number
numbers_at_element M scope parent (SubtypeElement-F.PatternConstraint x) = Some every_number
numbers_at_element M scope parent (SubtypeElement-F.UserDefinedConstraint x) = Some every_number
numbers_at_element M scope parent (SubtypeElement-F.PropertySettings x) = Some every_number

abbrev pub numbers_in_set : Meaning → Scope → Parent → ElementOrSetOperation → Option Numbers
numbers_in_set M scope parent set = once None (M.chain set) (ranked number_sets (λ e. numbers_at_element M scope parent (out-SubtypeElement e)))

-- whether every constraint on a head counts as true: REAL, NULL, EXTERNAL, EMBEDDED PDV and open types
abbrev pub is_free_kind : Kind → Bool
is_free_kind NullKind = true
is_free_kind BooleanKind = false
is_free_kind (IntegerKind numbers) = false
is_free_kind RealKind = true
is_free_kind (BitStringKind bits) = false
is_free_kind OctetStringKind = false
is_free_kind (CharacterStringKind ty) = false
is_free_kind TimeKind = false
is_free_kind (EnumeratedKind items) = false
is_free_kind ObjectIdentifierKind = false
is_free_kind OpaqueKind = true
is_free_kind (StructKind x) = false
is_free_kind (ListKind ty) = false
is_free_kind (ChoiceKind options) = false
is_free_kind (FieldKind x) = true
is_free_kind (ReferenceKind x) = false
is_free_kind (SelectionKind x) = false

abbrev pub is_free : Place → Bool
is_free head = is_free_kind (kind_of head)

-- Tables, argument lists and contents leave the numbers as they are.
abbrev pub narrowed_at : Meaning → Scope → Place → Option Numbers → ConstraintLayer → Option Numbers
narrowed_at M scope head numbers (Constraint-F.SubtypeConstraint s) = lifted in_both numbers (numbers_in_set M scope (ValuesOf head numbers) s.set)
narrowed_at M scope head numbers (Constraint-F.TableConstraint table) = numbers
narrowed_at M scope head numbers (Constraint-F.Parameter arguments) = numbers
narrowed_at M scope head numbers (Constraint-F.ContentConstraint content) = numbers

-- the whole numbers of the parent that a further constraint leaves
abbrev pub narrowed : Meaning → Scope → Place → Option Numbers → Constraint → Option Numbers
narrowed M scope head numbers c = if is_free head then numbers else narrowed_at M scope head numbers (out-Constraint c)

-- constraints written one behind another all apply (X.680 49.6)
abbrev pub narrowed_by_all : Meaning → Scope → Place → Option Numbers → List Constraint → Option Numbers
narrowed_by_all M scope head numbers [] = numbers
narrowed_by_all M scope head numbers (c ∷ cs) = narrowed_by_all M scope head (narrowed M scope head numbers c) cs

-- the constraints of a type and those of its place
abbrev pub all_constraints : Place → List Constraint → List Constraint
all_constraints p cs = listed (constraints_of p.ty) ++ cs

-- INTEGER has all whole numbers, and so has an open type; no other type has any
abbrev pub numbers_at_head : Kind → Numbers
numbers_at_head (IntegerKind numbers) = every_number
numbers_at_head (FieldKind x) = every_number
numbers_at_head _ = no_number

abbrev pub numbers_from_lead : Meaning → Place → Lead → Option Numbers
numbers_from_lead M p IsHead = Some (numbers_at_head (kind_of p))
numbers_from_lead M p (LeadsTo x) = M.numbers x.place x.constraints
numbers_from_lead M p IsLost = None

-- the whole numbers that a type accepts before its constraints and those of its place
abbrev pub numbers_before : Definitions → Meaning → Place → Option Numbers
numbers_before defs M p = numbers_from_lead M p (lead defs M p)

-- The whole numbers that a type with the constraints of its place accepts.
abbrev pub numbers_at : Definitions → Meaning → Place → List Constraint → Option Numbers
numbers_at defs M p cs = once None (M.head p) (λ head. narrowed_by_all M p.scope head (numbers_before defs M p) (all_constraints p cs))
