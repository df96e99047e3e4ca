-- What stands in a head: members, items, named numbers, elements.
use Rattle.std.specs.Prelude.{ℕ, suc, nat_eq, nat_le, Bool, false, not, ◌||◌, List, [], ◌∷◌, ◌++◌, map, ℤ, Option, Some, None, is_some, if◌then◌else◌}
use Rattle.std.specs.List.{filter, find}
use Rattle.std.specs.Str.{bytes_eq}
use Rattle.asn_tree_kinds.specs.declared.types.DistinguishedValue.{DistinguishedValue}
use Rattle.asn_tree_kinds.specs.declared.types.Enumeral.{Enumeral}
use Rattle.asn_tree.specs.declared.types.SequenceOrSetMember.{SequenceOrSetMember, out-SequenceOrSetMember}
use Rattle.asn_meaning.specs.Answers.{once}
use Rattle.asn_meaning.specs.Kinds.{Kind, ListKind, StructKind, kind_of}
use Rattle.asn_meaning.specs.Layers.{StructLayer}
use Rattle.asn_meaning.specs.Meaning.{Meaning, Member}
use Rattle.asn_meaning.specs.Names.{head_named}
use Rattle.asn_meaning.specs.Scopes.{Scope, Place}

-- ---- members of a SEQUENCE or SET

abbrev pub struct_in : Kind → Option StructLayer
struct_in (StructKind x) = Some x
struct_in _ = None

-- how a SEQUENCE or SET is written
abbrev pub struct_of : Place → Option StructLayer
struct_of head = struct_in (kind_of head)

-- the members of a head that is a SEQUENCE or SET
abbrev pub members_of : Meaning → Place → Option (List Member)
members_of M head = once None (struct_of head) (M.members head.scope)

abbrev pub root_members : List Member → List Member
root_members ms = filter (λ m. not m.is_addition) ms

-- the member as one of the additions, or of the root
abbrev pub moved : Bool → Member → Member
moved among m = record m { is_addition = among }

-- the root members of the SEQUENCE or SET that a name stands for, which come to stand among the additions or not (X.680 25.5)
abbrev pub components_of : Meaning → Scope → Bool → List ℕ → Option (List Member)
components_of M scope among name =
    once None (head_named M scope name) (λ h. once None (members_of M h) (λ ms. Some (map (moved among) (root_members ms))))

-- two runs of members, once both are known
abbrev pub and_then : Option (List Member) → Option (List Member) → Option (List Member)
and_then a b = once None a (λ ms. once None b (λ ns. Some (ms ++ ns)))

-- what the names after COMPONENTS OF put in that stand behind so many members
abbrev pub put_in : Meaning → Scope → ℕ → List (List ℕ) → List (ℕ × Bool) → Option (List Member)
put_in M scope number (name ∷ names) (at ∷ ats) =
    and_then (if nat_eq at.0 number then components_of M scope at.1 name else Some []) (put_in M scope number names ats)
put_in M scope number [] ats = Some []
put_in M scope number (name ∷ names) [] = Some []

-- The members from the extension marker on are additions (X.680 25.1).
abbrev pub is_addition_at : Option ℕ → ℕ → Bool
is_addition_at None number = false
is_addition_at (Some marker) number = nat_le marker number

abbrev pub written_member : Scope → Option ℕ → ℕ → SequenceOrSetMember → Member
written_member scope marker number m = record { scope = scope; written = out-SequenceOrSetMember m; is_addition = is_addition_at marker number }

-- the members from this number on, each name after COMPONENTS OF at its place
abbrev pub members_from : Meaning → Scope → StructLayer → ℕ → List SequenceOrSetMember → Option (List Member)
members_from M scope x number [] = put_in M scope number x.components_of x.components_at
members_from M scope x number (m ∷ ms) =
    and_then (put_in M scope number x.components_of x.components_at)
    (and_then (Some (written_member scope x.extensible number m ∷ [])) (members_from M scope x (suc number) ms))

-- Members: the written ones, with the root members of each COMPONENTS OF at its place (X.680 25.5).
abbrev pub members_at : Meaning → Scope → StructLayer → Option (List Member)
members_at M scope x = members_from M scope x 0 x.members

-- the first member of the name
abbrev pub member_named : List Member → List ℕ → Option Member
member_named ms name = find (λ m. bytes_eq m.written.name name) ms

abbrev pub member_names : List Member → List (List ℕ)
member_names ms = map (λ m. m.written.name) ms

-- a member's type
abbrev pub member_place : Member → Place
member_place m = record { scope = m.scope; ty = m.written.ty }

-- A value may lack a member that is OPTIONAL, has a DEFAULT, or is an addition (X.680 25.1).
abbrev pub may_be_absent : Member → Bool
may_be_absent m = m.written.is_optional || (is_some m.written.default_value || m.is_addition)

-- ---- elements of a SEQUENCE OF or SET OF

abbrev pub element_in : Scope → Kind → Option Place
element_in scope (ListKind ty) = Some (record { scope = scope; ty = ty })
element_in scope _ = None

-- the type of the elements
abbrev pub element_place : Place → Option Place
element_place head = element_in head.scope (kind_of head)

-- ---- items and named numbers

abbrev pub number_named : List DistinguishedValue → List ℕ → Option ℤ
number_named numbers name = once None (find (λ d. bytes_eq d.name name) numbers) (λ d. Some d.value)

abbrev pub item_named : List Enumeral → List ℕ → Option ℤ
item_named items name = once None (find (λ item. bytes_eq item.name name) items) (λ item. Some item.index)

-- the numbers in braces; without braces there are none
abbrev pub named : Option (List DistinguishedValue) → List DistinguishedValue
named None = []
named (Some numbers) = numbers
