-- What stands in a constraint, on the type that it constrains.
use Rattle.std.specs.Prelude.{ℕ, List, [], ◌∷◌, ◌++◌, map, true, Option, Some, None}
use Rattle.asn_tree.specs.declared.constraints.Constraint.{Constraint, Constraint-F}
use Rattle.asn_tree.specs.declared.constraints.ContentConstraint.{out-ContentConstraint, ContentConstraint-F}
use Rattle.asn_tree.specs.declared.constraints.ElementOrSetOperation.{ElementOrSetOperation-F}
use Rattle.asn_tree.specs.declared.constraints.SetOperation.{out-SetOperation}
use Rattle.asn_tree.specs.declared.constraints.SubtypeElement.{SubtypeElement-F}
use Rattle.asn_tree.specs.declared.types.ASN1Type.{ASN1Type}
use Rattle.asn_tree.specs.declared.values.ASN1Value.{ASN1Value}
use Rattle.asn_tree.specs.Layers.{ContentLayer, SetLayer}
use Rattle.asn_meaning.specs.Answers.{once}
use Rattle.asn_meaning.specs.Accepts.{place}
use Rattle.asn_meaning.specs.Everything.{plain_text}
use Rattle.asn_meaning.specs.Kinds.{Kind, ChoiceKind, kind_of}
use Rattle.asn_meaning.specs.Layers.{ConstraintLayer, ElementLayer, ListedLayer}
use Rattle.asn_meaning.specs.Meaning.{Meaning}
use Rattle.asn_meaning.specs.Members.{element_place, member_named, member_place, members_of}
use Rattle.asn_meaning.specs.Names.{lists_in, option_named}
use Rattle.asn_meaning.specs.Ranges.{integer_named}
use Rattle.asn_meaning.specs.Scopes.{Place}
use Rattle.asn_needs.specs.PartsOfTypes.{constraint_sites, loose_lists}
use Rattle.asn_needs.specs.Sites.{Seen, Site, beside, ValuePlace, AsSuch, AsEnd, AsBound, AsSingle, Asked, OfValues, OfLengths, OfCharacters, InPlace, AtHead, AType, AValue, ASet, AnElement, AListed, AnObjectSet}

-- ---- constraints

-- in a content or table
abbrev pub made_opaque : Site → Site
made_opaque s = record s { is_opaque = true; way = [] }

abbrev pub containing : Site → ASN1Type → List Site
containing s ty = beside (made_opaque s) (AType InPlace ty []) ∷ []

abbrev pub encoded_by : Site → ASN1Value → List Site
encoded_by s v = beside (made_opaque s) (AValue AsSuch v None) ∷ []

abbrev pub content_sites : Site → ContentLayer → List Site
content_sites s (ContentConstraint-F.Containing ty) = containing s ty
content_sites s (ContentConstraint-F.EncodedBy v) = encoded_by s v
content_sites s (ContentConstraint-F.ContainingEncodedBy ty v) = containing s ty ++ encoded_by s v

-- The names behind `@` are not judged; an argument list stands with the type.
abbrev pub constraint_parts : Site → Option Place → ConstraintLayer → List Site
constraint_parts s p (Constraint-F.SubtypeConstraint x) = beside s (ASet OfValues x.set p) ∷ []
constraint_parts s p (Constraint-F.TableConstraint x) = beside (made_opaque s) (AnObjectSet None x.object_set) ∷ []
constraint_parts s p (Constraint-F.Parameter arguments) = []
constraint_parts s p (Constraint-F.ContentConstraint c) = content_sites s (out-ContentConstraint c)

abbrev pub set_parts : Site → Asked → Option Place → SetLayer → List Site
set_parts s asked p (ElementOrSetOperation-F.Element e) = beside s (AnElement asked e p) ∷ []
set_parts s asked p (ElementOrSetOperation-F.SetOperation x) =
    beside s (AnElement asked (out-SetOperation x).base p) ∷ beside s (ASet asked (out-SetOperation x).operant p) ∷ []

-- ---- values in constraints

-- In SIZE every value is a whole number. In FROM every value is a text.
abbrev pub asked_under : Asked → Option Place → Option Place
asked_under OfValues p = p
asked_under OfLengths p = Some (integer_named None)
asked_under OfCharacters p = Some plain_text

-- what was followed to the constrained part counts for values outside SIZE and FROM alone
abbrev pub asked_site : Asked → Site → Site
asked_site OfValues s = s
asked_site OfLengths s = record s { way = [] }
asked_site OfCharacters s = record s { way = [] }

abbrev pub asked_value : Site → Asked → ValuePlace → Option Place → ASN1Value → Site
asked_value s asked at p v = beside (asked_site asked s) (AValue at v (asked_under asked p))

abbrev pub end_at : Asked → ValuePlace
end_at OfValues = AsEnd
end_at OfLengths = AsBound
end_at OfCharacters = AsBound

abbrev pub end_sites : Site → Asked → Option Place → Option ASN1Value → List Site
end_sites s asked p None = []
end_sites s asked p (Some v) = asked_value s asked (end_at asked) p v ∷ []

-- ---- parts of the constrained type

abbrev pub listed_in : Meaning → Place → List ℕ → Kind → Option Place
listed_in M head name (ChoiceKind options) = once None (option_named options name) (λ o. Some (place head.scope o.ty))
listed_in M head name _ = once None (members_of M head) (λ ms. once None (member_named ms name) (λ m. Some (member_place m)))

-- the component that WITH COMPONENTS lists
abbrev pub listed_type : Meaning → Option Place → List ℕ → Option Place
listed_type M p name = once None p (λ q. once None (M.head q) (λ head. listed_in M head name (kind_of head)))

abbrev pub element_type : Meaning → Option Place → Option Place
element_type M p = once None p (λ q. once None (M.head q) element_place)

-- a part of the constrained type is constrained
abbrev pub onward : Site → Option Place → Site
onward s None = s
onward s (Some p) = record s { way = p ∷ s.way }

abbrev pub part_sites : Site → Option Place → List Constraint → List Site
part_sites s p cs = constraint_sites s p cs ++ loose_lists s (lists_in cs)

abbrev pub listed_parts : Seen → Site → Option Place → ListedLayer → List Site
listed_parts S s p c = part_sites s (listed_type S.known p c.identifier) c.constraints

-- ---- elements

-- A pattern, a constraint in words and settings hold no name of a definition.
abbrev pub element_parts : Seen → Site → Asked → Option Place → ElementLayer → List Site
element_parts S s asked p (SubtypeElement-F.SingleValue v extensible) = asked_value s asked AsSingle p v ∷ []
element_parts S s asked p (SubtypeElement-F.ContainedSubtype ty extensible) = beside s (AType AtHead ty []) ∷ []
element_parts S s asked p (SubtypeElement-F.ValueRange low high low_open high_open extensible) = end_sites s asked p low ++ end_sites s asked p high
element_parts S s asked p (SubtypeElement-F.PermittedAlphabet set) = beside s (ASet OfCharacters set p) ∷ []
element_parts S s asked p (SubtypeElement-F.SizeConstraint set) = beside s (ASet OfLengths set p) ∷ []
element_parts S s asked p (SubtypeElement-F.TypeConstraint ty) = beside s (AType AtHead ty []) ∷ []
element_parts S s asked p (SubtypeElement-F.SingleTypeConstraint cs) = part_sites (onward s p) (element_type S.known p) cs
element_parts S s asked p (SubtypeElement-F.MultipleTypeConstraints inner) = map (λ c. beside (onward s p) (AListed c p)) inner.constraints
element_parts S s asked p (SubtypeElement-F.PatternConstraint x) = []
element_parts S s asked p (SubtypeElement-F.UserDefinedConstraint x) = []
element_parts S s asked p (SubtypeElement-F.PropertySettings x) = []
