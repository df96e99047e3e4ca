-- What a value denotes under a type.
use Rattle.std.specs.Prelude.{ℕ, Bool, true, false, not, ◌&&◌, ◌||◌, List, [], ◌∷◌, map, Option, Some, None, if◌then◌else◌}
use Rattle.std.specs.List.{list_all}
use Rattle.asn_tree.specs.declared.constraints.Parameter.{Parameter-F, out-Parameter}
use Rattle.asn_tree.specs.declared.definitions.ParameterGovernor.{ParameterGovernor}
use Rattle.asn_tree.specs.declared.definitions.ParameterGovernor.TheVariants as governor
use Rattle.asn_tree.specs.declared.definitions.ToplevelValueDefinition.{ToplevelValueDefinition}
use Rattle.asn_tree.specs.declared.objects.InformationObjectField.{InformationObjectField-F, out-InformationObjectField}
use Rattle.asn_tree.specs.declared.types.ASN1Type.{ASN1Type}
use Rattle.asn_tree.specs.declared.types.ChoiceOption.{ChoiceOption}
use Rattle.asn_tree.specs.declared.values.ASN1Value.{ASN1Value}
use Rattle.asn_meaning.specs.Answers.{once, Denotation, Denoted, Nothing, Unsure, together, made_of, if_any, provided}
use Rattle.asn_meaning.specs.Braces.{elements_written, fields_written}
use Rattle.asn_meaning.specs.Definitions.{Definitions, value_named, object_named}
use Rattle.asn_meaning.specs.Kinds.{Kind, ChoiceKind, EnumeratedKind, FieldKind, IntegerKind, ListKind, StructKind, kind_of}
use Rattle.asn_meaning.specs.Layers.{FieldLayer, ParameterLayer}
use Rattle.asn_meaning.specs.Meaning.{Meaning, Member}
use Rattle.asn_meaning.specs.Members.{item_named, may_be_absent, member_named, member_place, named, number_named}
use Rattle.asn_meaning.specs.Names.{FieldType, Open, Fixed, object_field, object_field_type, option_named}
use Rattle.asn_meaning.specs.Rows.{row}
use Rattle.asn_meaning.specs.Scopes.{Scope, Empty, Argument, Bound, bound_to, Place}
use Rattle.asn_meaning.specs.Shapes.{option_place}
use Rattle.asn_meaning.specs.ValueTrees.{ValueTree, WholeNumber, ItemNumber, Struct, Elements, Alternative, Opaque, Fields, no_field, field, ValueTrees, no_tree, tree, is_among}
use Rattle.asn_meaning.specs.Written.{NamedValues, Written, AlternativeWritten, ItemWritten, NameWritten, NestedWritten, as_written}

-- ---- values with parts

abbrev pub are_distinct : List (List ℕ) → Bool
are_distinct [] = true
are_distinct (name ∷ names) = not (is_among names name) && are_distinct names

abbrev pub member_denoted : Meaning → Scope → Option Member → ASN1Value → Denotation ValueTree
member_denoted M scope None v = Nothing
member_denoted M scope (Some m) v = M.denotes scope v (member_place m)

abbrev pub fields_denoted : Meaning → Scope → List Member → NamedValues → Denotation Fields
fields_denoted M scope ms [] = Denoted no_field
fields_denoted M scope ms ((name, v) ∷ others) =
    together (field name) (member_denoted M scope (member_named ms name) v) (fields_denoted M scope ms others)

-- whether the names are distinct, and each other member may be absent
abbrev pub may_stand : List (List ℕ) → List Member → Bool
may_stand names ms = are_distinct names && list_all (λ m. is_among names m.written.name || may_be_absent m) ms

abbrev pub struct_denoted : Meaning → Scope → NamedValues → List Member → Denotation ValueTree
struct_denoted M scope fields ms =
    if may_stand (map (λ f. f.0) fields) ms then made_of Struct (fields_denoted M scope ms fields) else Nothing

-- under a SEQUENCE or SET the written members alone (X.680 25.18, 27.7)
abbrev pub struct_row : Meaning → Scope → Option (List Member) → Written → Denotation ValueTree
struct_row M scope ms w = once Nothing (fields_written w) (λ fields. once Unsure ms (struct_denoted M scope fields))

abbrev pub trees_denoted : Meaning → Scope → Place → List ASN1Value → Denotation ValueTrees
trees_denoted M scope p [] = Denoted no_tree
trees_denoted M scope p (v ∷ vs) = together tree (M.denotes scope v p) (trees_denoted M scope p vs)

-- under a SEQUENCE OF or SET OF (X.680 26.3, 28.3)
abbrev pub list_row : Meaning → Scope → Place → Written → Denotation ValueTree
list_row M scope p w = once Nothing (elements_written w) (λ vs. made_of Elements (trees_denoted M scope p vs))

-- under a CHOICE whose options are read in `inside` (X.680 29.11)
abbrev pub choice_row : Meaning → Scope → Scope → List ChoiceOption → Written → Denotation ValueTree
choice_row M scope inside options (AlternativeWritten name v) =
    once Nothing (option_named options name) (λ o. made_of (Alternative name) (M.denotes scope v (option_place inside o)))
choice_row M scope inside options _ = Nothing

-- a value whose parts are values, by the kind of its head, which is read in `inside`
abbrev pub parts_row : Meaning → Scope → Written → Scope → Kind → Denotation ValueTree
parts_row M scope w inside (StructKind x) = struct_row M scope (M.members inside x) w
parts_row M scope w inside (ListKind ty) = list_row M scope (record { scope = inside; ty = ty }) w
parts_row M scope w inside (ChoiceKind options) = choice_row M scope inside options w
parts_row M scope w inside _ = Unsure

abbrev pub row_or_parts : Option (Written → Option ValueTree) → Denotation ValueTree → Written → Denotation ValueTree
row_or_parts (Some f) parts w = if_any (f w)
row_or_parts None parts w = parts

-- a value that is no name, under a head
abbrev pub written_denoted : Meaning → Scope → Written → Place → Denotation ValueTree
written_denoted M scope w head = row_or_parts (row (kind_of head)) (parts_row M scope w head.scope (kind_of head)) w

-- ---- names

-- what is denoted, where it has the shape wanted here; else none
abbrev pub shaped : Meaning → Place → Denotation ValueTree → Denotation ValueTree
shaped M head (Denoted t) = provided (M.fits head t) t
shaped M head Nothing = Nothing
shaped M head Unsure = Unsure

abbrev pub item_in : List ℕ → Kind → Option ValueTree
item_in name (EnumeratedKind items) = once None (item_named items name) (λ i. Some (ItemNumber i))
item_in name _ = None

abbrev pub own_in : List ℕ → Kind → Option ValueTree
own_in name (IntegerKind numbers) = once None (number_named (named numbers) name) (λ i. Some (WholeNumber i))
own_in name kind = item_in name kind

-- an item or named number of the head (X.680 19.9, 20.8)
abbrev pub own_name : Place → List ℕ → Option ValueTree
own_name head name = own_in name (kind_of head)

-- a value, the scope that it is read in, and its type
pub record Read : Type 0 where
  pub scope : Scope
  pub value : ASN1Value
  pub place : Place

abbrev pub argument_at : Scope → ASN1Type → Scope → ParameterLayer → Option Read
argument_at inside g scope (Parameter-F.ValueParameter v) = Some (record { scope = scope; value = v; place = record { scope = inside; ty = g } })
argument_at inside g scope (Parameter-F.TypeParameter ty) = None
argument_at inside g scope (Parameter-F.InformationObjectParameter fields) = None
argument_at inside g scope (Parameter-F.ObjectSetParameter set) = None

abbrev pub argument_under : Scope → ParameterGovernor → Argument → Option Read
argument_under inside (governor.TypeOrClass g) a = argument_at inside g a.scope (out-Parameter a.tree)
argument_under inside governor.None a = None
argument_under inside (governor.Class name) a = None

-- A dummy's argument, read in the argument's scope under the governor, which is read in the template's (X.683 8.3).
abbrev pub argument_of : Scope → Bound → Option Read
argument_of inside b = once None b.argument (argument_under inside b.governor)

-- a definition's value under its own type
abbrev pub defined_read : ToplevelValueDefinition → Read
defined_read d = record { scope = Empty; value = d.value; place = record { scope = Empty; ty = d.associated_type } }

abbrev pub value_of_field : FieldLayer → Option ASN1Value
value_of_field (InformationObjectField-F.TypeField x) = None
value_of_field (InformationObjectField-F.FixedValueField x) = Some x.value
value_of_field (InformationObjectField-F.ObjectSetField x) = None

-- the value that object `o` gives for the field, and the field's type
abbrev pub path_value : Definitions → Scope → List ℕ → List ℕ → Option (ASN1Value × FieldType)
path_value defs scope o name =
    once None (object_field defs scope o name) (λ f. once None (value_of_field (out-InformationObjectField f)) (λ v.
    once None (object_named defs o) (λ object. once None (object_field_type defs object name) (λ ty. Some (v, ty)))))

abbrev pub read_denoted : Meaning → Read → Denotation ValueTree
read_denoted M r = M.denotes r.scope r.value r.place

abbrev pub field_denoted : Meaning → ASN1Value × FieldType → Denotation ValueTree
field_denoted M (v, Open) = Denoted Opaque
field_denoted M (v, Fixed ty) = M.denotes Empty v (record { scope = Empty; ty = ty })

-- `o.&f`: what the object gives, under the field's type (X.681 15.1)
abbrev pub path_denoted : Definitions → Meaning → Scope → Place → List ℕ → List ℕ → Denotation ValueTree
path_denoted defs M scope head o name = once Unsure (path_value defs scope o name) (λ f. shaped M head (field_denoted M f))

abbrev pub defined_denoted : Definitions → Meaning → Place → List ℕ → Denotation ValueTree
defined_denoted defs M head name = once Unsure (value_named defs name) (λ d. shaped M head (read_denoted M (defined_read d)))

abbrev pub own_or_defined : Option ValueTree → Denotation ValueTree → Denotation ValueTree
own_or_defined (Some t) d = Denoted t
own_or_defined None d = d

-- a plain name: a dummy, else an item or named number of the head, else a value definition (X.680 14.1)
abbrev pub name_denoted : Definitions → Meaning → Scope → Place → List ℕ → Option Bound → Denotation ValueTree
name_denoted defs M scope head name (Some b) = once Unsure (argument_of scope b) (λ r. shaped M head (read_denoted M r))
name_denoted defs M scope head name None = own_or_defined (own_name head name) (defined_denoted defs M head name)

abbrev pub reference_denoted : Definitions → Meaning → Scope → Place → Option (List ℕ) → List ℕ → Denotation ValueTree
reference_denoted defs M scope head None name = name_denoted defs M scope head name (bound_to scope name)
reference_denoted defs M scope head (Some o) name = path_denoted defs M scope head o name

-- ---- all values

-- A name, an item, a value inside a linked form, or any other value by its row.
abbrev pub value_denoted : Definitions → Meaning → Scope → Place → Written → Denotation ValueTree
value_denoted defs M scope head (NameWritten parent name) = reference_denoted defs M scope head parent name
value_denoted defs M scope head (ItemWritten name) = if_any (item_in name (kind_of head))
value_denoted defs M scope head (NestedWritten v) = M.denotes scope v head
value_denoted defs M scope head w = written_denoted M scope w head

abbrev pub is_open_kind : Kind → Bool
is_open_kind (FieldKind x) = true
is_open_kind _ = false

-- whether a head is an open type (X.681 14.2)
abbrev pub is_open : Place → Bool
is_open head = is_open_kind (kind_of head)

-- Denotes: under an open type every value denotes opaque, a dummy, a name and a path too.
abbrev pub denoted_under : Definitions → Meaning → Scope → ASN1Value → Place → Denotation ValueTree
denoted_under defs M scope v head = if is_open head then Denoted Opaque else value_denoted defs M scope head (as_written v)

abbrev pub denotes_at : Definitions → Meaning → Scope → ASN1Value → Place → Denotation ValueTree
denotes_at defs M scope v p = once Unsure (M.head p) (denoted_under defs M scope v)
