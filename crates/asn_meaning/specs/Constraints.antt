-- Whether a constraint holds of a tree (X.680 clauses 49 to 51).
use Rattle.std.specs.Prelude.{ℕ, Bool, true, false, not, ◌&&◌, ◌||◌, List, [], ◌∷◌, ℤ, pos, is_none, is_some, Option, Some, None, if◌then◌else◌}
use Rattle.std.specs.List.{list_any}
use Rattle.std.specs.Str.{bytes_eq}
use Rattle.asn_tree_kinds.specs.declared.constraints.ComponentPresence.{ComponentPresence}
use Rattle.asn_tree_kinds.specs.declared.constraints.ComponentPresence.TheVariants.{Absent, Present, Optional, Unspecified}
use Rattle.asn_tree.specs.declared.constraints.Constraint.{Constraint, Constraint-F, out-Constraint}
use Rattle.asn_tree.specs.declared.constraints.ElementOrSetOperation.{ElementOrSetOperation, ElementOrSetOperation-F}
use Rattle.asn_tree.specs.declared.constraints.SetOperation.{out-SetOperation}
use Rattle.asn_tree.specs.declared.constraints.SubtypeElement.{SubtypeElement-F}
use Rattle.asn_tree.specs.declared.types.ChoiceOption.{ChoiceOption}
use Rattle.asn_tree.specs.declared.values.ASN1Value.{ASN1Value}
use Rattle.asn_meaning.specs.Answers.{Answer, Yes, No, Unknown, both, each, answer_of, once, unless_all, Denotation, Denoted, Nothing, Unsure}
use Rattle.asn_meaning.specs.Kinds.{Kind, ChoiceKind, StructKind, kind_of}
use Rattle.asn_meaning.specs.Layers.{ConstraintLayer, ElementLayer, InnerLayer, ListedLayer, OperationLayer, OptionLayer, SetLayer}
use Rattle.asn_meaning.specs.Meaning.{Meaning, Member, Parent, ValuesOf, CharactersOf}
use Rattle.asn_meaning.specs.Members.{element_place, member_named, member_place}
use Rattle.asn_meaning.specs.Names.{option_named}
use Rattle.asn_meaning.specs.Numbers.{Chain, Numbers, answers, numbers_from, ranked}
use Rattle.asn_meaning.specs.Ranges.{codes_of, from_low, integer_named, is_free, narrowed, up_to_high, value_place}
use Rattle.asn_meaning.specs.Scopes.{Scope, Place}
use Rattle.asn_meaning.specs.Shapes.{list_judged, option_place}
use Rattle.asn_meaning.specs.ValueTrees.{ValueTree, WholeNumber, Characters, Struct, Alternative, Fields, field_named, counted, same_tree}

-- ---- elements joined by operators

abbrev pub chain_behind : OperationLayer → Chain → Chain
chain_behind x c = record { first = x.base; others = (x.operator, c.first) ∷ c.others }

-- The elements of a set in order; in the tree they group to the right.
abbrev pub chain_at : Meaning → SetLayer → Option Chain
chain_at M (ElementOrSetOperation-F.Element e) = Some (record { first = e; others = [] })
chain_at M (ElementOrSetOperation-F.SetOperation x) = once None (M.chain (out-SetOperation x).operant) (λ c. Some (chain_behind (out-SetOperation x) c))

-- whether a tree is in the set
abbrev pub set_holds : Meaning → Scope → Parent → ElementOrSetOperation → ValueTree → Answer
set_holds M scope parent set t = once Unknown (M.chain set) (ranked answers (λ e. M.holds scope parent e t))

-- ---- constraints in a row

-- The root decides: extension markers change nothing. Content and table constraints, and argument lists, count as true.
abbrev pub constraint_at : Meaning → Scope → Parent → ValueTree → ConstraintLayer → Answer
constraint_at M scope parent t (Constraint-F.SubtypeConstraint s) = set_holds M scope parent s.set t
constraint_at M scope parent t (Constraint-F.TableConstraint table) = Yes
constraint_at M scope parent t (Constraint-F.Parameter arguments) = Yes
constraint_at M scope parent t (Constraint-F.ContentConstraint content) = Yes

abbrev pub constraint_holds : Meaning → Scope → Place → Option Numbers → Constraint → ValueTree → Answer
constraint_holds M scope head numbers c t = if is_free head then Yes else constraint_at M scope (ValuesOf head numbers) t (out-Constraint c)

-- Constraints written one behind another all apply, each on the type with those before it (X.680 49.6).
abbrev pub all_hold : Meaning → Scope → Place → Option Numbers → List Constraint → ValueTree → Answer
all_hold M scope head numbers [] t = Yes
all_hold M scope head numbers (c ∷ cs) t = both (constraint_holds M scope head numbers c t) (all_hold M scope head (narrowed M scope head numbers c) cs t)

-- further constraints, written in a scope, on the type of a part
abbrev pub part_holds : Meaning → Scope → Place → List Constraint → ValueTree → Answer
part_holds M scope p cs t = once Unknown (M.head p) (λ head. all_hold M scope head (M.numbers p []) cs t)

-- ---- single values and ranges

-- In FROM a single value holds of each character that occurs in it.
abbrev pub occurs : ValueTree → ValueTree → Bool
occurs (Characters (c ∷ [])) (Characters text) = list_any (λ x. bytes_eq (x ∷ []) (c ∷ [])) text
occurs _ _ = false

abbrev pub is_value : Parent → ValueTree → ValueTree → Bool
is_value (ValuesOf head numbers) t u = same_tree t u
is_value (CharactersOf codes) t u = occurs t u

abbrev pub compared : Parent → ValueTree → Denotation ValueTree → Answer
compared parent t (Denoted u) = answer_of (is_value parent t u)
compared parent t Nothing = No
compared parent t Unsure = Unknown

-- A single value holds of the tree that it denotes under the constrained type; ALL holds of every tree (X.680 51.2).
abbrev pub single_holds : Meaning → Scope → Parent → ASN1Value → ValueTree → Answer
single_holds M scope parent v t =
    unless_all Yes Unknown (M.is_all scope v (value_place parent)) (compared parent t (M.denotes scope v (value_place parent)))

-- the whole number that a range is asked of; in FROM the code of a character
abbrev pub number_asked : Parent → ValueTree → Option ℤ
number_asked (ValuesOf head numbers) (WholeNumber i) = Some i
number_asked (CharactersOf codes) (Characters (c ∷ [])) = Some (pos c)
number_asked _ _ = None

-- whether a number lies on the side of an end that a range has, once the numbers of that side are known
abbrev pub side_holds : Option Numbers → ℤ → Answer
side_holds side i = once Unknown side (λ s. answer_of (s.has i))

-- A range holds of the numbers from its lower end on and up to its upper one (X.680 51.4). Each end is asked alone, so a
-- number beyond one of them is out of the range, whatever the other is.
abbrev pub range_holds : Option Numbers → Option Numbers → Option ℤ → Answer
range_holds low high None = No
range_holds low high (Some i) = both (side_holds low i) (side_holds high i)

-- ---- sizes and characters

-- the sizes: whole numbers from 0
abbrev pub sizes : Parent
sizes = ValuesOf (integer_named None) (Some (numbers_from false (pos 0)))

-- SIZE holds where the set has the number of bits, octets, characters or elements (X.680 51.5).
abbrev pub size_holds : Meaning → Scope → ElementOrSetOperation → ValueTree → Answer
size_holds M scope set t = once No (counted t) (λ n. set_holds M scope sizes set (WholeNumber (pos n)))

-- FROM holds where the set has each character alone (X.680 51.7).
abbrev pub alphabet_holds : Meaning → Scope → Parent → ElementOrSetOperation → ValueTree → Answer
alphabet_holds M scope parent set (Characters cs) = each (λ c. set_holds M scope (CharactersOf (codes_of parent)) set (Characters (c ∷ []))) cs
alphabet_holds M scope parent set _ = No

-- ---- parts

-- WITH COMPONENT holds where the constraints hold of each element (X.680 51.8.5).
abbrev pub component_holds : Meaning → Scope → Parent → List Constraint → ValueTree → Answer
component_holds M scope (ValuesOf head numbers) cs t = once No (element_place head) (λ p. list_judged (part_holds M scope p cs) t)
component_holds M scope (CharactersOf codes) cs t = No

-- an alternative: PRESENT asks that it is chosen, ABSENT that it is not
abbrev pub is_choice_allowed : ComponentPresence → Bool → Bool
is_choice_allowed Present chosen = chosen
is_choice_allowed Absent chosen = not chosen
is_choice_allowed Optional chosen = true
is_choice_allowed Unspecified chosen = true

abbrev pub option_holds : Meaning → Scope → Scope → Bool → ValueTree → ListedLayer → OptionLayer → Answer
option_holds M scope inside chosen t c o =
    both (answer_of (is_choice_allowed c.presence chosen))
    (if chosen then part_holds M scope (option_place inside o) c.constraints t else Yes)

abbrev pub listed_option_holds : Meaning → Scope → Scope → List ChoiceOption → List ℕ → ValueTree → ListedLayer → Answer
listed_option_holds M scope inside options name t c =
    once Unknown (option_named options c.identifier) (option_holds M scope inside (bytes_eq name c.identifier) t c)

abbrev pub is_listed : List ListedLayer → List ℕ → Bool
is_listed cs name = list_any (λ c. bytes_eq c.identifier name) cs

-- Of a CHOICE whose options are read in `inside`: without `...` an alternative that is not listed is not chosen (X.680 51.8.8).
abbrev pub choice_holds : Meaning → Scope → Scope → List ChoiceOption → InnerLayer → ValueTree → Answer
choice_holds M scope inside options inner (Alternative name t) =
    both (each (listed_option_holds M scope inside options name t) inner.constraints) (answer_of (inner.is_partial || is_listed inner.constraints name))
choice_holds M scope inside options inner _ = No

-- A member must be present where PRESENT stands, and without `...` where it is marked OPTIONAL and no word stands.
abbrev pub must_be_present : Bool → ComponentPresence → Member → Bool
must_be_present is_partial Present m = true
must_be_present is_partial Absent m = false
must_be_present is_partial Optional m = false
must_be_present is_partial Unspecified m = not is_partial && (m.written.is_optional && is_none m.written.default_value)

abbrev pub is_absent_word : ComponentPresence → Bool
is_absent_word Absent = true
is_absent_word Present = false
is_absent_word Optional = false
is_absent_word Unspecified = false

abbrev pub member_holds : Meaning → Scope → Bool → ListedLayer → Option ValueTree → Member → Answer
member_holds M scope is_partial c None m = answer_of (not (must_be_present is_partial c.presence m))
member_holds M scope is_partial c (Some t) m = both (answer_of (not (is_absent_word c.presence))) (part_holds M scope (member_place m) c.constraints t)

abbrev pub listed_member_holds : Meaning → Scope → Bool → List Member → Fields → ListedLayer → Answer
listed_member_holds M scope is_partial ms fs c = once Unknown (member_named ms c.identifier) (member_holds M scope is_partial c (field_named fs c.identifier))

-- without `...` a member marked OPTIONAL or DEFAULT that is not listed is absent
abbrev pub is_left_out : InnerLayer → Fields → Member → Bool
is_left_out inner fs m =
    inner.is_partial || (is_listed inner.constraints m.written.name || (not (m.written.is_optional || is_some m.written.default_value) || is_none (field_named fs m.written.name)))

abbrev pub members_hold : Meaning → Scope → InnerLayer → Fields → List Member → Answer
members_hold M scope inner fs ms =
    both (each (listed_member_holds M scope inner.is_partial ms fs) inner.constraints) (each (λ m. answer_of (is_left_out inner fs m)) ms)

-- Of a SEQUENCE or SET, by its members (X.680 51.8.6 to 51.8.9).
abbrev pub struct_holds : Meaning → Scope → Option (List Member) → InnerLayer → ValueTree → Answer
struct_holds M scope ms inner (Struct fs) = once Unknown ms (members_hold M scope inner fs)
struct_holds M scope ms inner _ = No

-- on a head of this kind, which is read in `inside`; one without such parts says no
abbrev pub inner_at : Meaning → Scope → InnerLayer → ValueTree → Scope → Kind → Answer
inner_at M scope inner t inside (StructKind x) = struct_holds M scope (M.members inside x) inner t
inner_at M scope inner t inside (ChoiceKind options) = choice_holds M scope inside options inner t
inner_at M scope inner t inside _ = No

-- WITH COMPONENTS
abbrev pub inner_holds : Meaning → Scope → Parent → InnerLayer → ValueTree → Answer
inner_holds M scope (ValuesOf head numbers) inner t = inner_at M scope inner t head.scope (kind_of head)
inner_holds M scope (CharactersOf codes) inner t = No

-- ---- all elements

-- An element that does not fit the tree's kind says no. Pattern, user text and settings say yes.
abbrev pub holds_at : Meaning → Scope → Parent → ValueTree → ElementLayer → Answer
holds_at M scope parent t (SubtypeElement-F.SingleValue v extensible) = single_holds M scope parent v t
holds_at M scope parent t (SubtypeElement-F.ContainedSubtype ty extensible) = M.accepts (record { scope = scope; ty = ty }) [] t
holds_at M scope parent t (SubtypeElement-F.ValueRange low high low_open high_open extensible) =
    range_holds (from_low M scope parent low_open low) (up_to_high M scope parent high_open high) (number_asked parent t)
holds_at M scope parent t (SubtypeElement-F.PermittedAlphabet set) = alphabet_holds M scope parent set t
holds_at M scope parent t (SubtypeElement-F.SizeConstraint set) = size_holds M scope set t
holds_at M scope parent t (SubtypeElement-F.TypeConstraint ty) = M.accepts (record { scope = scope; ty = ty }) [] t
holds_at M scope parent t (SubtypeElement-F.SingleTypeConstraint cs) = component_holds M scope parent cs t
holds_at M scope parent t (SubtypeElement-F.MultipleTypeConstraints inner) = inner_holds M scope parent inner t
holds_at M scope parent t (SubtypeElement-F.PatternConstraint x) = Yes
holds_at M scope parent t (SubtypeElement-F.UserDefinedConstraint x) = Yes
holds_at M scope parent t (SubtypeElement-F.PropertySettings x) = Yes
