-- The text of one level of a type, where its parts have these texts.
use Rattle.std.specs.Prelude.{ℕ, ◌+◌, List, [], ◌∷◌, ◌++◌, Bool, true, false, Option, Some, None, codes, nat_eq, not, ◌&&◌, if◌then◌else◌}
use Rattle.std.specs.List.{zip}
use Rattle.asn_tree_kinds.specs.declared.types.DistinguishedValue.{DistinguishedValue}
use Rattle.asn_tree_kinds.specs.declared.types.Enumeral.{Enumeral}
use Rattle.asn_check_listing.specs.LongWords.{components_of_word, generalized_time_word, object_identifier_word, octet_string_word}
use Rattle.asn_check_listing.specs.Parts.{Letters, behind, braced, constrained, joined, marker_at, when, with_marker}
use Rattle.asn_check_listing.specs.Words.{items_text, name_text, numbers_text, path_text, tag_text}
use Rattle.asn_tree_notation.specs.Strings.{string_word}
use Rattle.asn_tree_leaves.specs.declared.objects.ObjectFieldIdentifier.{ObjectFieldIdentifier}
use Rattle.asn_tree.specs.Layers.{ChoiceOf, ListOf, MemberOf, OptionOf, StructOf, TypeOf}
use Rattle.asn_tree.specs.declared.types.ASN1Type.{ASN1Type-F}

abbrev pub numbered : Letters → Option (List DistinguishedValue) → List Letters → Letters
numbered word ds cs = word ++ numbers_text ds ++ joined cs

abbrev pub enumerated : Option ℕ → List Enumeral → List Letters → Letters
enumerated marker es cs = codes "ENUMERATED" ++ items_text marker es ++ joined cs

abbrev pub referenced : Option Letters → Letters → List Letters → Letters
referenced parent name cs = name_text parent name ++ joined cs

abbrev pub selected : Letters → Letters → Letters
selected option choice = option ++ codes " < " ++ choice

abbrev pub of_field : Letters → List ObjectFieldIdentifier → List Letters → Letters
of_field class path cs = class ++ path_text path ++ joined cs

abbrev pub type_line : TypeOf Letters → Letters
type_line ASN1Type-F.ASN1Type::Null = codes "NULL"
type_line (ASN1Type-F.ASN1Type::Boolean t) = constrained (codes "BOOLEAN") t.constraints
type_line (ASN1Type-F.ASN1Type::Integer t) = numbered (codes "INTEGER") t.distinguished_values t.constraints
type_line (ASN1Type-F.ASN1Type::Real t) = constrained (codes "REAL") t.constraints
type_line (ASN1Type-F.ASN1Type::BitString t) = numbered (codes "BIT STRING") t.distinguished_values t.constraints
type_line (ASN1Type-F.ASN1Type::OctetString t) = constrained octet_string_word t.constraints
type_line (ASN1Type-F.CharacterString t) = constrained (string_word t.ty) t.constraints
type_line (ASN1Type-F.Enumerated t) = enumerated t.extensible t.members t.constraints
type_line (ASN1Type-F.ASN1Type::Choice c) = behind (codes "CHOICE") c
type_line (ASN1Type-F.Sequence s) = behind (codes "SEQUENCE") s
type_line (ASN1Type-F.SequenceOf l) = behind (codes "SEQUENCE") l
type_line (ASN1Type-F.Set s) = behind (codes "SET") s
type_line (ASN1Type-F.SetOf l) = behind (codes "SET") l
type_line (ASN1Type-F.ASN1Type::Time t) = constrained (codes "TIME") t.constraints
type_line (ASN1Type-F.GeneralizedTime t) = constrained generalized_time_word t.constraints
type_line (ASN1Type-F.UTCTime t) = constrained (codes "UTCTime") t.constraints
type_line (ASN1Type-F.ElsewhereDeclaredType r) = referenced r.parent r.identifier r.constraints
type_line (ASN1Type-F.ChoiceSelectionType s) = selected s.selected_option s.choice_name
type_line (ASN1Type-F.ASN1Type::ObjectIdentifier t) = constrained object_identifier_word t.constraints
type_line (ASN1Type-F.InformationObjectFieldReference f) = of_field f.class f.field_path f.constraints
type_line ASN1Type-F.EmbeddedPdv = codes "EMBEDDED PDV"
type_line ASN1Type-F.External = codes "EXTERNAL"

-- a SEQUENCE OF or SET OF behind its first word
abbrev pub list_line : ListOf Letters → Letters
list_line l = joined l.constraints ++ codes " OF " ++ l.element_type

abbrev pub option_line : OptionOf Letters → Letters
option_line o = o.name ++ codes " " ++ tag_text o.tag ++ o.ty ++ joined o.constraints

abbrev pub choice_line : ChoiceOf Letters → Letters
choice_line c = braced (with_marker c.extensible 0 c.options) ++ joined c.constraints

-- the word behind a member or a field: the value that it has by default, or that it may be left out
abbrev pub presence_line : Option Letters → Bool → Letters
presence_line (Some v) optional = codes " DEFAULT " ++ v
presence_line None optional = when optional (codes " OPTIONAL")

abbrev pub member_line : MemberOf Letters → Letters
member_line m = m.name ++ codes " " ++ tag_text m.tag ++ m.ty ++ joined m.constraints ++ presence_line m.default_value m.is_optional

-- a name after COMPONENTS OF with its place: behind so many members, among the additions or not
abbrev pub Included : Type 0
Included = Letters × (ℕ × Bool)

-- whether this is the place behind so many members, among the additions or not
abbrev pub stands_here : Bool → ℕ → ℕ × Bool → Bool
stands_here additional n at = nat_eq at.0 n && (if additional then at.1 else not at.1)

-- the first of these names, as far as they stand there
abbrev pub components_here : Bool → ℕ → List Included → List Letters
components_here additional n [] = []
components_here additional n (c ∷ cs) = if stands_here additional n c.1 then (components_of_word ++ c.0) ∷ components_here additional n cs else []

-- the names behind those
abbrev pub components_behind : Bool → ℕ → List Included → List Included
components_behind additional n [] = []
components_behind additional n (c ∷ cs) = if stands_here additional n c.1 then components_behind additional n cs else c ∷ cs

-- what stands behind so many members and before the next: names after COMPONENTS OF, the extension marker, and such names among
-- the additions
abbrev pub between_members : List Included → Option ℕ → ℕ → List Letters
between_members cs marker n = components_here false n cs ++ marker_at marker n ++ components_here true n (components_behind false n cs)

-- the names that stand behind further members
abbrev pub components_later : ℕ → List Included → List Included
components_later n cs = components_behind true n (components_behind false n cs)

-- members with what stands between them, where so many members stand before these
abbrev pub among_members : List Included → Option ℕ → ℕ → List Letters → List Letters
among_members cs marker n [] = between_members cs marker n
among_members cs marker n (m ∷ ms) = between_members cs marker n ++ m ∷ among_members (components_later n cs) marker (n + 1) ms

abbrev pub struct_line : StructOf Letters → Letters
struct_line s = braced (among_members (zip s.components_of s.components_at) s.extensible 0 s.members) ++ joined s.constraints
