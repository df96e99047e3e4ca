-- The edges that a place gives: the definitions and fields of classes that are followed from it.
use Rattle.std.specs.Prelude.{ℕ, zero, suc, List, [], ◌++◌, Bool, true, false, Option, Some, None, is_some, is_none, ◌||◌, ◌&&◌, not, if◌then◌else◌}
use Rattle.asn_tree.specs.declared.constraints.Parameter.{out-Parameter}
use Rattle.asn_tree.specs.declared.objects.InformationObjectField.{out-InformationObjectField}
use Rattle.asn_tree.specs.declared.values.ASN1Value.{ASN1Value}
use Rattle.asn_meaning.specs.Accepts.{place}
use Rattle.asn_meaning.specs.Answers.{once}
use Rattle.asn_meaning.specs.Definitions.{Definitions, value_named}
use Rattle.asn_meaning.specs.Kinds.{Kind, FieldKind, ReferenceKind, SelectionKind, kind_of}
use Rattle.asn_meaning.specs.Names.{lead}
use Rattle.asn_meaning.specs.Scopes.{Scope, Place}
use Rattle.asn_meaning.specs.Written.{Written, AllWritten, NameWritten, as_written}
use Rattle.asn_needs.specs.Dummies.{argument_name, is_class_name, is_dummy, name_of_value, next_place}
use Rattle.asn_needs.specs.Followed.{followed_in_value, followed_to_parts, followed_to_head, named_place, to_field, to_name, undummied}
use Rattle.asn_needs.specs.Occurrences.{has_list, is_own_name}
use Rattle.asn_needs.specs.PartsOfObjects.{unclassed_name}
use Rattle.asn_needs.specs.PartsOfTypes.{instance_at}
use Rattle.asn_needs.specs.Sites.{Seen, Site, each_of, Form, TypePlace, AtHead, OfField, AtHeadOfField, InPlace, ValuePlace, AsSuch, AsEnd, AsBound, AsSingle, Inside, AType, ComponentsOf, AValue, AConstraint, ASet, AnElement, AListed, LooseList, AnArgument, NoArgument, LooseArgument, ADummy, ClassName, ClassField, AnObject, GivenField, LooseField, AnObjectSet, SetName, Node}

-- ---- types

abbrev pub leads_the_way : TypePlace → Bool
leads_the_way AtHead = true
leads_the_way AtHeadOfField = true
leads_the_way OfField = false
leads_the_way InPlace = false

-- a plain name without an argument list, no dummy
abbrev pub is_arrived_at : Scope → Kind → Bool
is_arrived_at scope (ReferenceKind x) = is_none x.parent && not (is_dummy scope x.identifier || has_list x)
is_arrived_at scope _ = false

abbrev pub name_there : Definitions → Scope → Kind → List Node
name_there defs scope (ReferenceKind x) = if is_none x.parent then undummied defs scope x.identifier else []
name_there defs scope _ = []

-- the plain name at which following names arrives, templates on the way included
abbrev pub arrival : Seen → ℕ → Place → List Node
arrival S zero p = []
arrival S (suc n) p =
    name_there S.defs p.scope (kind_of p)
    ++ (if is_arrived_at p.scope (kind_of p) then [] else once [] (next_place (lead S.defs S.known p)) (arrival S n))

-- a class's field is an edge itself, and has edges of its own; an argument list has a template, whose head stands in it
abbrev pub is_own_edge : Scope → Kind → Bool
is_own_edge scope (FieldKind x) = true
is_own_edge scope (ReferenceKind x) = is_none x.parent && (not (is_dummy scope x.identifier) && has_list x)
is_own_edge scope _ = false

-- The plain name at its head; where that head is a selection or a field of an object, also the plain name at which following
-- these arrives. A dummy is followed too.
abbrev pub head_edges : Seen → Place → TypePlace → List Node
head_edges S p at = if leads_the_way at && not (is_own_edge p.scope (kind_of p)) then arrival S S.steps p else []

-- the template of an argument list, or the object of a field
abbrev pub reference_needs : Seen → Scope → Kind → Option (List ℕ) → List Node
reference_needs S scope k None = once [] (instance_at S.defs scope k) (λ i. to_name S.defs i.template.name)
reference_needs S scope k (Some o) = undummied S.defs scope o

-- The template of an argument list, the CHOICE of a selection, the class's field, the object.
abbrev pub form_edges : Seen → Scope → Kind → List Node
form_edges S scope (ReferenceKind x) = reference_needs S scope (ReferenceKind x) x.parent
form_edges S scope (SelectionKind x) = undummied S.defs scope x.choice_name ++ followed_to_head S.defs S.known S.steps (named_place scope x.choice_name)
form_edges S scope (FieldKind x) = to_field S.defs scope x
form_edges S scope _ = []

abbrev pub type_edges : Seen → Place → TypePlace → List Node
type_edges S p at = form_edges S p.scope (kind_of p) ++ head_edges S p at

-- the name behind COMPONENTS OF, and what is followed to its members
abbrev pub components_edges : Seen → Scope → List ℕ → List Node
components_edges S scope name = undummied S.defs scope name ++ followed_to_parts S.defs S.known S.steps (named_place scope name)

-- ---- values

-- a value's name, no dummy and no item or named number of the head
abbrev pub value_edge : Seen → Scope → Option Place → List ℕ → List Node
value_edge S scope p name =
    if is_dummy scope name || is_own_name S p name then [] else
    if is_some (value_named S.defs name) then to_name S.defs name else []

abbrev pub name_edges : Seen → Scope → Option Place → Written → List Node
name_edges S scope p (NameWritten None name) = value_edge S scope p name
name_edges S scope p (NameWritten (Some o) name) = undummied S.defs scope o
name_edges S scope p _ = []

-- an object as the value of a field
abbrev pub object_edge : Seen → Scope → Written → List Node
object_edge S scope w = once [] (name_of_value w) (undummied S.defs scope)

abbrev pub way_edges : Seen → Site → List Node
way_edges S s = each_of (followed_to_parts S.defs S.known S.steps) s.way

abbrev pub governed_edges : Seen → Scope → ASN1Value → Place → List Node
governed_edges S scope v p =
    if is_class_name S.defs p then object_edge S scope (as_written v) else
    name_edges S scope (Some p) (as_written v) ++ followed_in_value S.defs S.known S.steps scope v p

abbrev pub is_all : Written → Bool
is_all AllWritten = true
is_all _ = false

abbrev pub plain_edges : Seen → Scope → ASN1Value → Option Place → List Node
plain_edges S scope v None = name_edges S scope None (as_written v)
plain_edges S scope v (Some p) = governed_edges S scope v p

abbrev pub is_single : ValuePlace → Bool
is_single AsSuch = false
is_single AsEnd = false
is_single AsBound = false
is_single AsSingle = true
is_single Inside = false

-- ALL as a single value needs nothing (X.680 51.2)
abbrev pub value_edges : Seen → Site → ValuePlace → ASN1Value → Option Place → List Node
value_edges S s at v p = if is_single at && is_all (as_written v) then [] else way_edges S s ++ plain_edges S s.scope v p

-- ---- all places

-- what stands in the parts of a form is a place of its own
abbrev pub edges_of : Seen → Site → Form → List Node
edges_of S s (AType at ty behind) = type_edges S (place s.scope ty) at
edges_of S s (ComponentsOf name) = components_edges S s.scope name
edges_of S s (AValue at v p) = value_edges S s at v p
edges_of S s (AConstraint c p) = []
edges_of S s (ASet asked set p) = []
edges_of S s (AnElement asked e p) = []
edges_of S s (AListed c p) = []
edges_of S s LooseList = []
edges_of S s (AnArgument p dummy inner) = []
edges_of S s NoArgument = []
edges_of S s (LooseArgument p) = once [] (argument_name (out-Parameter p)) (value_edge S s.scope None)
edges_of S s (ADummy dummy) = []
edges_of S s (ClassName name) = undummied S.defs s.scope name
edges_of S s (ClassField at f) = []
edges_of S s (AnObject c fields) = []
edges_of S s (GivenField c f) = once [] (unclassed_name c (out-InformationObjectField f)) (undummied S.defs s.scope)
edges_of S s (LooseField f) = once [] (unclassed_name None (out-InformationObjectField f)) (undummied S.defs s.scope)
edges_of S s (AnObjectSet c set) = []
edges_of S s (SetName name) = undummied S.defs s.scope name

-- The edges that a place gives, contents and tables not entered.
abbrev pub edges_at : Seen → Site → List Node
edges_at S s = if s.is_opaque then [] else edges_of S s s.form
