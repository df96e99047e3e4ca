-- The names that are followed while heads, members, shapes and values are found.
use Rattle.std.specs.Prelude.{ℕ, zero, suc, List, [], ◌∷◌, ◌++◌, Option, Some, None, is_some, ◌||◌, codes, if◌then◌else◌}
use Rattle.std.specs.Str.{bytes_eq}
use Rattle.asn_tree.specs.declared.values.ASN1Value.{ASN1Value}
use Rattle.asn_tree_notation.specs.Paths.{field_name}
use Rattle.asn_meaning.specs.Accepts.{place}
use Rattle.asn_meaning.specs.Answers.{once, Denotation, Denoted, Nothing, Unsure}
use Rattle.asn_meaning.specs.Braces.{elements_written, fields_written}
use Rattle.asn_meaning.specs.Definitions.{Definitions, last_named, class_named, value_named}
use Rattle.asn_meaning.specs.Denotes.{argument_of, defined_read, own_name, path_value, field_denoted, read_denoted}
use Rattle.asn_meaning.specs.Kinds.{Kind, ChoiceKind, FieldKind, ListKind, ReferenceKind, SelectionKind, StructKind, kind_of}
use Rattle.asn_meaning.specs.Layers.{ClassFieldLayer}
use Rattle.asn_meaning.specs.Meaning.{Meaning, Member}
use Rattle.asn_meaning.specs.Members.{element_place, member_named, member_place, members_of, struct_of}
use Rattle.asn_meaning.specs.Names.{Lead, IsHead, LeadsTo, IsLost, lead, option_named, options_of, plain_name}
use Rattle.asn_meaning.specs.Objects.{field_at_path}
use Rattle.asn_meaning.specs.Scopes.{Scope, bound_to, Place}
use Rattle.asn_meaning.specs.ValueTrees.{ValueTree, Struct, Elements, Alternative, Fields, no_field, field, ValueTrees, no_tree, tree}
use Rattle.asn_meaning.specs.Written.{NamedValues, Written, AlternativeWritten, NameWritten, NestedWritten, as_written}
use Rattle.asn_needs.specs.Dummies.{choice_at, is_dummy, next_place}
use Rattle.asn_needs.specs.Sites.{each_of, Node, ToDefinition, ToField}

-- ---- one name

-- an edge to the definition of a name; TYPE-IDENTIFIER has none (X.681 A.2)
abbrev pub to_name : Definitions → List ℕ → List Node
to_name defs name =
    if bytes_eq name (codes "TYPE-IDENTIFIER") then [] else
    if is_some (last_named defs name) then ToDefinition name ∷ [] else []

-- an edge to a field of a class
abbrev pub to_field : Definitions → Scope → ClassFieldLayer → List Node
to_field defs scope x =
    if is_dummy scope x.class || bytes_eq x.class (codes "TYPE-IDENTIFIER") then [] else
    once [] (class_named defs x.class) (λ c. once [] (field_at_path c x.field_path) (λ f. ToField x.class (field_name f.identifier) ∷ []))

-- an edge to the definition of a name that is no dummy
abbrev pub undummied : Definitions → Scope → List ℕ → List Node
undummied defs scope name = if is_dummy scope name then [] else to_name defs name

-- ---- heads

-- the name that a type's own form follows
abbrev pub named_by : Definitions → Scope → Kind → List Node
named_by defs scope (ReferenceKind x) = undummied defs scope (once x.identifier x.parent (λ o. o))
named_by defs scope (SelectionKind x) = undummied defs scope x.choice_name
named_by defs scope (FieldKind x) = to_field defs scope x
named_by defs scope _ = []

-- only what leads on is followed
abbrev pub followed_by : Definitions → Place → Lead → List Node
followed_by defs p IsHead = []
followed_by defs p (LeadsTo x) = named_by defs p.scope (kind_of p)
followed_by defs p IsLost = []

-- the names followed from a type to its head
abbrev pub followed_to_head : Definitions → Meaning → ℕ → Place → List Node
followed_to_head defs M zero p = []
followed_to_head defs M (suc n) p =
    followed_by defs p (lead defs M p)
    ++ once [] (choice_at p.scope (kind_of p)) (followed_to_head defs M n)
    ++ once [] (next_place (lead defs M p)) (followed_to_head defs M n)

-- ---- members

abbrev pub named_place : Scope → List ℕ → Place
named_place scope name = place scope (plain_name name)

-- the names behind COMPONENTS OF, and those followed from them to a SEQUENCE or SET and to its members
abbrev pub followed_to_members : Definitions → Meaning → ℕ → Place → List Node
followed_to_members defs M zero head = []
followed_to_members defs M (suc n) head =
    once [] (struct_of head) (λ x. each_of (λ name.
    followed_to_head defs M n (named_place head.scope name)
    ++ once [] (M.head (named_place head.scope name)) (followed_to_members defs M n)) x.components_of)

-- to the head, and to the members of it
abbrev pub followed_to_parts : Definitions → Meaning → ℕ → Place → List Node
followed_to_parts defs M n p = followed_to_head defs M n p ++ once [] (M.head p) (followed_to_members defs M n)

-- ---- shapes

abbrev pub option_place_named : Place → List ℕ → Option Place
option_place_named head name = once None (option_named (options_of head) name) (λ o. Some (place head.scope o.ty))

abbrev pub members_known : Meaning → Place → List Member
members_known M head = once [] (members_of M head) (λ ms. ms)

abbrev pub fields_followed : (Place → ValueTree → List Node) → List Member → Fields → List Node
fields_followed f ms no_field = []
fields_followed f ms (field name t others) = once [] (member_named ms name) (λ m. f (member_place m) t) ++ fields_followed f ms others

abbrev pub trees_followed : (ValueTree → List Node) → ValueTrees → List Node
trees_followed f no_tree = []
trees_followed f (tree t others) = f t ++ trees_followed f others

-- members are asked for where there are fields
abbrev pub parts_followed : (Place → ValueTree → List Node) → Definitions → Meaning → ℕ → Place → ValueTree → List Node
parts_followed f defs M n head (Struct fields) = followed_to_members defs M n head ++ fields_followed f (members_known M head) fields
parts_followed f defs M n head (Elements ts) = once [] (element_place head) (λ p. trees_followed (f p) ts)
parts_followed f defs M n head (Alternative name t) = once [] (option_place_named head name) (λ p. f p t)
parts_followed f defs M n head _ = []

-- the names followed while Shape is found of a tree
abbrev pub followed_in_shape : Definitions → Meaning → ℕ → Place → ValueTree → List Node
followed_in_shape defs M zero p t = []
followed_in_shape defs M (suc n) p t =
    followed_to_head defs M n p ++ once [] (M.head p) (λ head. parts_followed (followed_in_shape defs M n) defs M n head t)

-- ---- values

-- where a tree that is denoted is tried at its place
abbrev pub followed_in_trial : Definitions → Meaning → ℕ → Place → Denotation ValueTree → List Node
followed_in_trial defs M n p (Denoted t) = followed_in_shape defs M n p t
followed_in_trial defs M n p Nothing = []
followed_in_trial defs M n p Unsure = []

-- a definition's own value is its own need: its name is followed, and its tree tried
abbrev pub followed_in_name : Definitions → Meaning → ℕ → List ℕ → Place → List Node
followed_in_name defs M n name p =
    once [] (value_named defs name) (λ d. to_name defs name ++ followed_in_trial defs M n p (read_denoted M (defined_read d)))

abbrev pub followed_in_path : Definitions → Meaning → ℕ → Scope → List ℕ → List ℕ → Place → List Node
followed_in_path defs M n scope o name p =
    once [] (path_value defs scope o name) (λ f. to_name defs o ++ followed_in_trial defs M n p (field_denoted M f))

-- what is read of a value by name, and of an argument under its governor
abbrev pub followed_in_reference : (Scope → ASN1Value → Place → List Node) → Definitions → Meaning → ℕ → Scope → Place → Place → Option (List ℕ) → List ℕ → List Node
followed_in_reference f defs M n scope p head (Some o) name = followed_in_path defs M n scope o name p
followed_in_reference f defs M n scope p head None name =
    once (if is_some (own_name head name) then [] else followed_in_name defs M n name p) (bound_to scope name) (λ b.
    once [] (argument_of scope b) (λ r. f r.scope r.value r.place ++ followed_in_trial defs M n p (read_denoted M r)))

abbrev pub fields_read : (Scope → ASN1Value → Place → List Node) → Scope → List Member → NamedValues → List Node
fields_read f scope ms fields = each_of (λ x. once [] (member_named ms x.0) (λ m. f scope x.1 (member_place m))) fields

abbrev pub struct_read : (Scope → ASN1Value → Place → List Node) → Definitions → Meaning → ℕ → Scope → Place → Written → List Node
struct_read f defs M n scope head w =
    once [] (fields_written w) (λ fields. followed_to_members defs M n head ++ fields_read f scope (members_known M head) fields)

abbrev pub list_read : (Scope → ASN1Value → Place → List Node) → Scope → Option Place → Written → List Node
list_read f scope element w = once [] (elements_written w) (λ vs. once [] element (λ p. each_of (λ x. f scope x p) vs))

abbrev pub option_read : (Scope → ASN1Value → Place → List Node) → Scope → Place → Written → List Node
option_read f scope head (AlternativeWritten name v) = once [] (option_place_named head name) (f scope v)
option_read f scope head _ = []

-- by the kind of the head; a value under a kind without parts follows nothing
abbrev pub parts_read : (Scope → ASN1Value → Place → List Node) → Definitions → Meaning → ℕ → Scope → Place → Written → Kind → List Node
parts_read f defs M n scope head w (StructKind x) = struct_read f defs M n scope head w
parts_read f defs M n scope head w (ListKind ty) = list_read f scope (element_place head) w
parts_read f defs M n scope head w (ChoiceKind options) = option_read f scope head w
parts_read f defs M n scope head w _ = []

abbrev pub followed_under : (Scope → ASN1Value → Place → List Node) → Definitions → Meaning → ℕ → Scope → Place → Place → Written → List Node
followed_under f defs M n scope p head (NameWritten parent name) = followed_in_reference f defs M n scope p head parent name
followed_under f defs M n scope p head (NestedWritten v) = f scope v head
followed_under f defs M n scope p head w = parts_read f defs M n scope head w (kind_of head)

-- Each name followed while a value is read under its type, as deep as the value goes.
abbrev pub followed_in_value : Definitions → Meaning → ℕ → Scope → ASN1Value → Place → List Node
followed_in_value defs M zero scope v p = []
followed_in_value defs M (suc n) scope v p =
    followed_to_head defs M n p
    ++ once [] (M.head p) (λ head. followed_under (followed_in_value defs M n) defs M n scope p head (as_written v))
