-- Which trees are of a type's kind, and which fit it at every depth.
use Rattle.std.specs.Prelude.{Bool, true, false, List, Option, Some, None}
use Rattle.std.specs.List.{list_any}
use Rattle.asn_tree.specs.declared.types.ChoiceOption.{ChoiceOption}
use Rattle.asn_tree_kinds.specs.declared.types.Enumeral.{Enumeral}
use Rattle.asn_meaning.specs.Answers.{Answer, Yes, No, Unknown, answer_of, both, each, once}
use Rattle.asn_meaning.specs.Kinds.{Kind, NullKind, BooleanKind, IntegerKind, RealKind, BitStringKind, OctetStringKind, CharacterStringKind, TimeKind, EnumeratedKind, ObjectIdentifierKind, OpaqueKind, StructKind, ListKind, ChoiceKind, FieldKind, ReferenceKind, SelectionKind, kind_of}
use Rattle.asn_meaning.specs.Layers.{OptionLayer}
use Rattle.asn_meaning.specs.Meaning.{Meaning, Member}
use Rattle.asn_meaning.specs.Members.{member_names, member_place, may_be_absent}
use Rattle.asn_meaning.specs.Names.{option_named}
use Rattle.asn_meaning.specs.Scopes.{Scope, Place}
use Rattle.asn_meaning.specs.ValueTrees.{ValueTree, NullValue, TruthValue, WholeNumber, ItemNumber, RealNumber, Bits, Octets, Characters, ObjectIdentifierArcs, Struct, Elements, Alternative, Opaque, Fields, field_named, ValueTrees, no_tree, tree, are_among, same_number}

-- ---- one level

abbrev pub is_null : ValueTree → Bool
is_null NullValue = true
is_null _ = false

abbrev pub is_truth_value : ValueTree → Bool
is_truth_value (TruthValue b) = true
is_truth_value _ = false

abbrev pub is_whole_number : ValueTree → Bool
is_whole_number (WholeNumber i) = true
is_whole_number _ = false

abbrev pub is_real : ValueTree → Bool
is_real (RealNumber m b e) = true
is_real _ = false

abbrev pub is_bits : ValueTree → Bool
is_bits (Bits bs) = true
is_bits _ = false

abbrev pub is_octets : ValueTree → Bool
is_octets (Octets os) = true
is_octets _ = false

abbrev pub is_text : ValueTree → Bool
is_text (Characters cs) = true
is_text _ = false

abbrev pub is_identifier : ValueTree → Bool
is_identifier (ObjectIdentifierArcs arcs) = true
is_identifier _ = false

abbrev pub is_opaque : ValueTree → Bool
is_opaque Opaque = true
is_opaque _ = false

-- the number of an item (X.680 20)
abbrev pub is_item : List Enumeral → ValueTree → Bool
is_item items (ItemNumber i) = list_any (λ item. same_number item.index i) items
is_item items _ = false

-- Whether a tree without parts is of the kind. None where trees of the kind have parts: SEQUENCE, SET, SEQUENCE OF, SET OF
-- and CHOICE; and of a name, which is no head. Every tree is of an open type's kind.
abbrev pub is_of_kind : Kind → Option (ValueTree → Bool)
is_of_kind NullKind = Some is_null
is_of_kind BooleanKind = Some is_truth_value
is_of_kind (IntegerKind numbers) = Some is_whole_number
is_of_kind RealKind = Some is_real
is_of_kind (BitStringKind bits) = Some is_bits
is_of_kind OctetStringKind = Some is_octets
is_of_kind (CharacterStringKind ty) = Some is_text
is_of_kind TimeKind = Some is_text
is_of_kind (EnumeratedKind items) = Some (is_item items)
is_of_kind ObjectIdentifierKind = Some is_identifier
is_of_kind OpaqueKind = Some is_opaque
is_of_kind (StructKind x) = None
is_of_kind (ListKind ty) = None
is_of_kind (ChoiceKind options) = None
is_of_kind (FieldKind x) = Some (λ t. true)
is_of_kind (ReferenceKind x) = None
is_of_kind (SelectionKind x) = None

-- ---- the parts of a tree, each asked of the type that it has by the head

-- a part of a member, an option or an element: its place, and the tree that stands there
abbrev pub Asking : Type 0
Asking = Member → ValueTree → Answer

abbrev pub member_judged : Asking → Member → Option ValueTree → Answer
member_judged ask m None = answer_of (may_be_absent m)
member_judged ask m (Some t) = ask m t

-- Each name is a member's, each member that is present is asked, and each that is absent may be (X.680 25).
abbrev pub fields_judged : Asking → Fields → List Member → Answer
fields_judged ask fs ms = both (answer_of (are_among (member_names ms) fs)) (each (λ m. member_judged ask m (field_named fs m.written.name)) ms)

-- a struct, by the members of a SEQUENCE or SET
abbrev pub struct_judged : Asking → Option (List Member) → ValueTree → Answer
struct_judged ask ms (Struct fs) = once Unknown ms (fields_judged ask fs)
struct_judged ask ms _ = No

abbrev pub trees_judged : (ValueTree → Answer) → ValueTrees → Answer
trees_judged ask no_tree = Yes
trees_judged ask (tree t ts) = both (ask t) (trees_judged ask ts)

-- a list of a SEQUENCE OF or SET OF (X.680 26, 28)
abbrev pub list_judged : (ValueTree → Answer) → ValueTree → Answer
list_judged ask (Elements ts) = trees_judged ask ts
list_judged ask _ = No

-- an alternative of a CHOICE, by the option of its name (X.680 29)
abbrev pub choice_judged : (OptionLayer → ValueTree → Answer) → List ChoiceOption → ValueTree → Answer
choice_judged ask options (Alternative name t) = once No (option_named options name) (λ o. ask o t)
choice_judged ask options _ = No

-- ---- Shape

-- an option's type
abbrev pub option_place : Scope → OptionLayer → Place
option_place scope o = record { scope = scope; ty = o.ty }

-- a tree with parts, each of which fits its type
abbrev pub parts_fit : Meaning → Scope → ValueTree → Kind → Answer
parts_fit M scope t (StructKind x) = struct_judged (λ m u. M.fits (member_place m) u) (M.members scope x) t
parts_fit M scope t (ListKind ty) = list_judged (M.fits (record { scope = scope; ty = ty })) t
parts_fit M scope t (ChoiceKind options) = choice_judged (λ o u. M.fits (option_place scope o) u) options t
parts_fit M scope t _ = Unknown

abbrev pub kind_or_parts : Option (ValueTree → Bool) → Answer → ValueTree → Answer
kind_or_parts (Some test) parts t = answer_of (test t)
kind_or_parts None parts t = parts

-- whether a tree fits a head
abbrev pub head_fits : Meaning → ValueTree → Place → Answer
head_fits M t head = kind_or_parts (is_of_kind (kind_of head)) (parts_fit M head.scope t (kind_of head)) t

-- Shape: the tree fits the head's kind at every depth, constraints and character sets aside.
abbrev pub fits_at : Meaning → Place → ValueTree → Answer
fits_at M p t = once Unknown (M.head p) (head_fits M t)
