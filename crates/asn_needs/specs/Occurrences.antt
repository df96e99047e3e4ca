-- Which names occur at a place: of what kind each must be, in which scope it is read, and under which type.
use Rattle.std.specs.Prelude.{ℕ, List, [], ◌∷◌, Bool, true, false, Option, Some, None, is_some, ◌||◌, ◌&&◌, not, nat_eq, if◌then◌else◌}
use Rattle.std.specs.List.{Contains, list_any}
use Rattle.asn_tree.specs.declared.constraints.Parameter.{out-Parameter}
use Rattle.asn_tree.specs.declared.definitions.Parameterization.{Parameterization}
use Rattle.asn_tree.specs.declared.definitions.ParameterGovernor.{ParameterGovernor}
use Rattle.asn_tree.specs.declared.definitions.ParameterGovernor.TheVariants as governor
use Rattle.asn_tree.specs.declared.definitions.ToplevelDefinition.{ToplevelDefinition}
use Rattle.asn_tree.specs.declared.definitions.ToplevelDefinition.TheVariants.{TypeDef, Value, Information}
use Rattle.asn_tree.specs.declared.objects.ASN1Information.{ASN1Information}
use Rattle.asn_tree.specs.declared.objects.ASN1Information.TheVariants.{ObjectClass, ObjectSet, Object}
use Rattle.asn_tree.specs.declared.objects.InformationObjectField.{out-InformationObjectField}
use Rattle.asn_meaning.specs.Answers.{once}
use Rattle.asn_meaning.specs.Definitions.{Definitions, see}
use Rattle.asn_meaning.specs.Denotes.{own_name}
use Rattle.asn_meaning.specs.Kinds.{Kind, FieldKind, ReferenceKind, SelectionKind, kind_of_type}
use Rattle.asn_meaning.specs.Layers.{ReferenceLayer}
use Rattle.asn_meaning.specs.Names.{lists_in}
use Rattle.asn_meaning.specs.Scopes.{Scope, Place}
use Rattle.asn_meaning.specs.Written.{Written, NameWritten, as_written}
use Rattle.asn_needs.specs.Dummies.{argument_name, hangs, is_class_name, is_dummy, name_of_value}
use Rattle.asn_needs.specs.PartsOfObjects.{unclassed_name}
use Rattle.asn_needs.specs.Sites.{Seen, Site, Form, TypePlace, AtHead, OfField, AtHeadOfField, InPlace, AType, ComponentsOf, AValue, AConstraint, ASet, AnElement, AListed, LooseList, AnArgument, NoArgument, LooseArgument, ADummy, ClassName, ClassField, AnObject, GivenField, LooseField, AnObjectSet, SetName, Node}
use Rattle.asn_needs.specs.Stands.{StandsIn, node_sites}

-- ---- kinds of definitions

pub data Sort : Type 0 where
  OfTypes : Sort
  OfValues : Sort
  OfClasses : Sort
  OfObjects : Sort
  OfSets : Sort

abbrev pub information_sort : ASN1Information → Sort
information_sort (ObjectClass c) = OfClasses
information_sort (ObjectSet s) = OfSets
information_sort (Object o) = OfObjects

abbrev pub sort_of : ToplevelDefinition → Sort
sort_of (TypeDef d) = OfTypes
sort_of (Value d) = OfValues
sort_of (Information d) = information_sort d.value

abbrev pub parameters_of : ToplevelDefinition → Option Parameterization
parameters_of (TypeDef d) = d.parameterization
parameters_of (Value d) = d.parameterization
parameters_of (Information d) = d.parameterization

-- What stands at the place of a name, and so of what kind its definition must be.
pub data Need : Type 0 where
  -- a type reference (X.680 14.1)
  NeedsType : Need
  -- the type of a class's field, where a class stands too
  NeedsTypeOrClass : Need
  -- the CHOICE of a selection (X.680 30)
  NeedsChoice : Need
  -- the SEQUENCE or SET behind COMPONENTS OF (X.680 25.5)
  NeedsComponents : Need
  -- a value reference (X.680 14.1)
  NeedsValue : Need
  -- the class of a field, of an object, of a set or of a dummy (X.681 9 to 14)
  NeedsClass : Need
  -- the object before a field (X.681 15)
  NeedsObject : Need
  -- an object or a set in a set (X.681 12)
  NeedsObjectOrSet : Need
  -- what a field is given where its class is not asked (X.681 11.4)
  NeedsValueOrObject : Need
  -- an argument for which no dummy stands, of whatever kind it is
  NeedsAny : Need

abbrev pub takes : Need → Sort → Bool
takes NeedsType OfTypes = true
takes NeedsTypeOrClass OfTypes = true
takes NeedsTypeOrClass OfClasses = true
takes NeedsChoice OfTypes = true
takes NeedsComponents OfTypes = true
takes NeedsValue OfValues = true
takes NeedsClass OfClasses = true
takes NeedsObject OfObjects = true
takes NeedsObjectOrSet OfObjects = true
takes NeedsObjectOrSet OfSets = true
takes NeedsValueOrObject OfValues = true
takes NeedsValueOrObject OfObjects = true
takes NeedsAny sort = true
takes _ _ = false

-- A name that occurs: what its place needs, whether an argument list stands behind it, the scope that it is read in, and the
-- type that governs its place, where it is the name of a value or an object and its place has one. References with a
-- module's name are no form of the notation that is read, so a name is its text.
pub record Occurrence : Type 0 where
  pub need : Need
  pub name : List ℕ
  pub has_list : Bool
  pub scope : Scope
  pub governing : Option Place

-- it has no definition of the kind that its place needs
abbrev pub lacks_definition : Definitions → Occurrence → Bool
lacks_definition defs o = once true (see defs o.name) (λ d. not (takes o.need (sort_of d)))

-- a template's name stands without a list
abbrev pub lacks_list : Definitions → Occurrence → Bool
lacks_list defs o = once false (see defs o.name) (λ d. takes o.need (sort_of d) && (is_some (parameters_of d) && not o.has_list))

-- ---- names

abbrev pub begins_field : ℕ → List ℕ → Bool
begins_field c [] = false
begins_field c (d ∷ name) = nat_eq c 46 && nat_eq d 38

-- whether a name is several, joined by `.&`
abbrev pub is_path : List ℕ → Bool
is_path [] = false
is_path (c ∷ name) = begins_field c name || is_path name

abbrev pub has_list : ReferenceLayer → Bool
has_list x = elim (lists_in x.constraints) [ [] ↦ false | a ∷ others ↦ true ]

-- the name; a dummy is none
abbrev pub occurring : Scope → Option Place → Need → List ℕ → Bool → List Occurrence
occurring scope p need name listed =
    if is_dummy scope name then [] else record { need = need; name = name; has_list = listed; scope = scope; governing = p } ∷ []

-- the plain name that something is, if it is one
abbrev pub occurring_plainly : Scope → Option Place → Need → Option (List ℕ) → List Occurrence
occurring_plainly scope p need name = once [] name (λ n. occurring scope p need n false)

-- the object of a path; several names are no object
abbrev pub object_occurring : Scope → Option Place → List ℕ → List Occurrence
object_occurring scope p o = if is_path o then [] else occurring scope p NeedsObject o false

-- In a class's field a type place takes a class too: the field's own, not those in it.
abbrev pub needed_at : TypePlace → Need
needed_at AtHead = NeedsType
needed_at OfField = NeedsTypeOrClass
needed_at AtHeadOfField = NeedsTypeOrClass
needed_at InPlace = NeedsType

abbrev pub names_in_reference : Scope → TypePlace → ReferenceLayer → Option (List ℕ) → List Occurrence
names_in_reference scope at x None = occurring scope None (needed_at at) x.identifier (has_list x)
names_in_reference scope at x (Some o) = object_occurring scope None o

-- the name that a type is; in any other type names stand in its parts alone
abbrev pub names_in_type : Scope → TypePlace → Kind → List Occurrence
names_in_type scope at (ReferenceKind x) = names_in_reference scope at x x.parent
names_in_type scope at (SelectionKind x) = occurring scope None NeedsChoice x.choice_name false
names_in_type scope at (FieldKind x) = occurring scope None NeedsClass x.class false
names_in_type scope at _ = []

-- Where the head hangs on a dummy of a template by itself, a name without a definition may be an item of its argument.
abbrev pub hangs_at : Seen → Option Place → Bool
hangs_at S p = once false p (λ q. if is_some (S.known.head q) then false else hangs S.defs S.known S.steps q)

abbrev pub unless_open : Seen → Option Place → List Occurrence → List Occurrence
unless_open S p os = if hangs_at S p && list_any (lacks_definition S.defs) os then [] else os

-- an item or named number of the head is no name of a definition (X.680 19.9, 20.8)
abbrev pub is_own_name : Seen → Option Place → List ℕ → Bool
is_own_name S p name = once false p (λ q. once false (S.known.head q) (λ head. is_some (own_name head name)))

-- the name that a value is; in any other value names stand in its parts alone
abbrev pub names_in_value : Seen → Scope → Option Place → Written → List Occurrence
names_in_value S scope p (NameWritten None name) = if is_own_name S p name then [] else unless_open S p (occurring scope p NeedsValue name false)
names_in_value S scope p (NameWritten (Some o) name) = object_occurring scope p o
names_in_value S scope p _ = []

-- under a class a value is the name of an object
abbrev pub names_under_class : Scope → Option Place → Written → List Occurrence
names_under_class scope p w = occurring_plainly scope p NeedsObject (name_of_value w)

abbrev pub governed_by_class : Seen → Option Place → Bool
governed_by_class S p = once false p (is_class_name S.defs)

abbrev pub value_names : Seen → Scope → Option Place → Written → List Occurrence
value_names S scope p w = if governed_by_class S p then names_under_class scope p w else names_in_value S scope p w

abbrev pub names_in_governor : Scope → ParameterGovernor → List Occurrence
names_in_governor scope governor.None = []
names_in_governor scope (governor.TypeOrClass g) = []
names_in_governor scope (governor.Class c) = occurring scope None NeedsClass c false

-- The names that occur at a place: dummies, arcs, and items and named numbers of what governs aside. Where a form holds no
-- name of its own, names stand in its parts, which are places themselves.
abbrev pub names_at : Seen → Site → Form → List Occurrence
names_at S s (AType at ty behind) = names_in_type s.scope at (kind_of_type ty)
names_at S s (ComponentsOf name) = if is_path name then [] else occurring s.scope None NeedsComponents name false
names_at S s (AValue at v p) = value_names S s.scope p (as_written v)
names_at S s (AConstraint c p) = []
names_at S s (ASet asked set p) = []
names_at S s (AnElement asked e p) = []
names_at S s (AListed c p) = []
names_at S s LooseList = []
names_at S s (AnArgument p dummy inner) = []
names_at S s NoArgument = []
names_at S s (LooseArgument p) = occurring_plainly s.scope None NeedsAny (argument_name (out-Parameter p))
names_at S s (ADummy dummy) = names_in_governor s.scope dummy.param_governor
names_at S s (ClassName name) = occurring s.scope None NeedsClass name false
names_at S s (ClassField at f) = []
names_at S s (AnObject c fields) = []
names_at S s (GivenField c f) = occurring_plainly s.scope None NeedsValueOrObject (unclassed_name c (out-InformationObjectField f))
names_at S s (LooseField f) = occurring_plainly s.scope None NeedsValueOrObject (unclassed_name None (out-InformationObjectField f))
names_at S s (AnObjectSet c set) = []
names_at S s (SetName name) = occurring s.scope None NeedsObjectOrSet name false

-- It occurs at one of these places, or in what stands there at some depth.
pub record OccursAmong (S : Seen) (first : List Site) (o : Occurrence) : Type 0 where
  pub at : Site
  pub stands : StandsIn S first at
  pub occurs : Contains (names_at S at at.form) o

-- It occurs in the definition or class's field.
abbrev pub OccursIn : Seen → Node → Occurrence → Type 0
OccursIn S x o = OccursAmong S (node_sites S.defs x) o
