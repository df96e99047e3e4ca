-- One way to write values: literals and the names of items stay, and a name whose tree has no parts becomes a literal or the
-- name of an item.
use Rattle.std.specs.Prelude.{ℤ, Bool, true, false, ◌&&◌, ◌||◌, ℕ, encode_utf8_all, is_none, is_some, map, List, Option, Some, None, if◌then◌else◌}
use Rattle.std.specs.List.{find, list_all}
use Rattle.std.specs.Str.{bytes_eq, chars}
use Rattle.asn_tree_headers.specs.declared.headers.ObjectIdentifierArc.{ObjectIdentifierArc}
use Rattle.asn_tree_kinds.specs.declared.types.Enumeral.{Enumeral}
use Rattle.asn_tree.specs.declared.values.ASN1Value.{ASN1Value}
use Rattle.asn_tree.specs.declared.values.ASN1Value.TheVariants as value
use Rattle.asn_meaning.specs.Answers.{Yes, once, Answer, No, Denotation, Denoted}
use Rattle.asn_meaning.specs.Kinds.{Kind, NullKind, BooleanKind, IntegerKind, RealKind, BitStringKind, OctetStringKind, CharacterStringKind, TimeKind, EnumeratedKind, ObjectIdentifierKind, FieldKind, ReferenceKind, SelectionKind, kind_of}
use Rattle.asn_meaning.specs.Meaning.{Meaning}
use Rattle.asn_meaning.specs.Members.{item_named}
use Rattle.asn_meaning.specs.Rows.{names_written}
use Rattle.asn_meaning.specs.Scopes.{Scope, Empty, bound_to, Place}
use Rattle.asn_meaning.specs.ValueTrees.{Arc, NumberArc, NameArc, ObjectIdentifierArcs, ValueTree, NullValue, TruthValue, WholeNumber, ItemNumber, RealNumber, Bits, Octets, Characters, same_number}
use Rattle.asn_meaning.specs.Written.{Written, AllWritten, NullWritten, TruthWritten, NumberWritten, RealWritten, TextWritten, BitsWritten, BitNamesWritten, OctetsWritten, ArcsWritten, NameWritten, as_written}
use Rattle.asn_names_references.specs.References.{references_in_value}
use Rattle.asn_link_instance.specs.Subjects.{Choices}
use Rattle.asn_link_instance.specs.Tables.{table_bound}

-- a value that holds neither a name nor another value; the names of bits stay
abbrev pub is_literal : Written → Bool
is_literal AllWritten = true
is_literal NullWritten = true
is_literal (TruthWritten b) = true
is_literal (NumberWritten i) = true
is_literal (RealWritten x) = true
is_literal (TextWritten s) = true
is_literal (BitsWritten bits) = true
is_literal (BitNamesWritten names) = true
is_literal (OctetsWritten octets) = true
is_literal _ = false

-- an object identifier by its arcs, under its own type: their names stay
abbrev pub is_own_arcs : Kind → Written → Bool
is_own_arcs ObjectIdentifierKind (ArcsWritten arcs) = true
is_own_arcs _ _ = false

-- a value that holds no name which is followed under a head
abbrev pub is_literal_under : Kind → Written → Bool
is_literal_under kind w = is_literal w || is_own_arcs kind w

-- a type that is a head whatever is known
abbrev pub is_own_head : Kind → Bool
is_own_head (ReferenceKind x) = false
is_own_head (SelectionKind x) = false
is_own_head (FieldKind x) = false
is_own_head _ = true

-- the name of an item of the head, which is no dummy
abbrev pub is_item_name : Scope → Kind → Written → Bool
is_item_name scope (EnumeratedKind items) (NameWritten None name) = is_none (bound_to scope name) && is_some (item_named items name)
is_item_name scope _ _ = false

-- an item's name for its number
abbrev pub item_numbered : List Enumeral → ℤ → Option (List ℕ)
item_numbered items i = once None (find (λ item. same_number item.index i) items) (λ item. once None (item_named items item.name) (λ k. if same_number k i then Some item.name else None))

-- the text of these characters, where there is one
abbrev pub text_of : List ℕ → Option (List ℕ)
text_of cs = if bytes_eq (chars (encode_utf8_all cs)) cs then Some (encode_utf8_all cs) else None

abbrev pub text_tree : ValueTree → Option ASN1Value
text_tree (Characters cs) = once None (text_of cs) (λ text. Some (value.String text))
text_tree _ = None

-- an arc by its number, where it has one, else by its name
abbrev pub written_arc : Arc → ObjectIdentifierArc
written_arc (NumberArc n) = record { name = None; number = Some n }
written_arc (NameArc name) = record { name = Some name; number = None }

-- the literal or item of a tree under a head
abbrev pub written : Kind → ValueTree → Option ASN1Value
written NullKind NullValue = Some value.Null
written BooleanKind (TruthValue b) = Some (value.Boolean b)
written (IntegerKind numbers) (WholeNumber i) = Some (value.Integer i)
written RealKind (RealNumber m b e) = Some (value.Real (record { mantissa = m; base = b; exponent = e }))
written (BitStringKind names) (Bits bits) = Some (value.BitString bits)
written OctetStringKind (Octets octets) = Some (value.OctetString octets)
written (CharacterStringKind ty) t = text_tree t
written TimeKind t = text_tree t
written ObjectIdentifierKind (ObjectIdentifierArcs arcs) = Some (value.ObjectIdentifier (record { 0 = map written_arc arcs }))
written (EnumeratedKind items) (ItemNumber i) = once None (item_numbered items i) (λ name. Some (value.ElsewhereDeclaredValue None name))
written _ _ = None

abbrev pub written_by_tree : Answer → Denotation ValueTree → Kind → Option ASN1Value
written_by_tree No (Denoted t) kind = written kind t
written_by_tree _ _ kind = None

abbrev pub value_written : Meaning → Scope → ASN1Value → Place → Option ASN1Value
value_written M scope v p =
    if is_own_head (kind_of p)
    then (if is_literal_under (kind_of p) (as_written v) || is_item_name scope (kind_of p) (as_written v) then Some v else written_by_tree (M.is_all scope v p) (M.denotes scope v p) (kind_of p))
    else None

-- a single value; one that stands for ALL becomes ALL
abbrev pub all_or : Answer → Option ASN1Value → Option ASN1Value
all_or Yes v = Some value.All
all_or _ v = v

abbrev pub single_written : Meaning → Scope → ASN1Value → Place → Option ASN1Value
single_written M scope v p = all_or (M.is_all scope v p) (value_written M scope v p)

-- ---- defaults

-- no name in it, at any depth, is bound
abbrev pub is_unbound : Scope → ASN1Value → Bool
is_unbound scope v = list_all (λ name. is_none (bound_to scope name)) (references_in_value v)

-- a plain name that is bound
abbrev pub is_dummy : Scope → Written → Bool
is_dummy scope (NameWritten None name) = is_some (bound_to scope name)
is_dummy scope _ = false

-- The names in braces are no values: those in the arcs of an object identifier (X.680 32.3), and those of bits (X.680 22.9).
abbrev pub has_own_names : Kind → Written → Bool
has_own_names (BitStringKind bits) w = is_some (names_written w)
has_own_names kind w = is_own_arcs kind w

-- Under bindings, by the member's head: what holds no dummy stays, and a dummy becomes the literal or item of the tree that it
-- denotes.
abbrev pub default_under : Meaning → Scope → ASN1Value → Place → Option ASN1Value
default_under M scope v head =
    if is_unbound scope v || has_own_names (kind_of head) (as_written v) then Some v
    else (if is_dummy scope (as_written v) then written_by_tree No (M.denotes scope v head) (kind_of head) else None)

-- a member's default, read under the member's type; in the empty scope it stays
abbrev pub default_written : Meaning → Scope → ASN1Value → Place → Option ASN1Value
default_written M Empty v p = Some v
default_written M scope v p = once None (M.head p) (default_under M scope v)

-- Such names stay as are told, and a table has the set that the bindings give.
abbrev pub literals : (Option (List ℕ) → List ℕ → Bool) → Choices
literals keeps =
    record {
      keeps = keeps;
      value = single_written;
      end = value_written;
      default = default_written;
      table = λ M scope x. Some (table_bound scope x);
    }
