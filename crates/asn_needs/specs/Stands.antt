-- Where something stands: the places of a definition and of a class's field.
use Rattle.std.specs.Prelude.{ℕ, List, [], ◌∷◌, ◌++◌, map, false, Option, Some, None}
use Rattle.std.specs.List.{Contains}
use Rattle.asn_tree.specs.declared.constraints.Constraint.{out-Constraint}
use Rattle.asn_tree.specs.declared.constraints.ElementOrSetOperation.{out-ElementOrSetOperation}
use Rattle.asn_tree.specs.declared.constraints.Parameter.{out-Parameter}
use Rattle.asn_tree.specs.declared.constraints.SubtypeElement.{out-SubtypeElement}
use Rattle.asn_tree.specs.declared.definitions.Parameterization.{Parameterization}
use Rattle.asn_tree.specs.declared.definitions.ParameterizationArgument.{ParameterizationArgument}
use Rattle.asn_tree.specs.declared.definitions.ToplevelDefinition.{ToplevelDefinition}
use Rattle.asn_tree.specs.declared.definitions.ToplevelDefinition.TheVariants.{TypeDef, Value, Information}
use Rattle.asn_tree.specs.declared.objects.ASN1Information.{ASN1Information}
use Rattle.asn_tree.specs.declared.objects.ASN1Information.TheVariants.{ObjectClass, ObjectSet, Object}
use Rattle.asn_tree.specs.declared.objects.ClassLink.{ClassLink}
use Rattle.asn_tree.specs.declared.objects.ClassLink.TheVariants.{ByName, ByReference}
use Rattle.asn_tree.specs.declared.objects.InformationObjectField.{out-InformationObjectField}
use Rattle.asn_tree.specs.declared.objects.InformationObjectFields.{out-InformationObjectFields}
use Rattle.asn_meaning.specs.Accepts.{place}
use Rattle.asn_meaning.specs.Answers.{once}
use Rattle.asn_meaning.specs.Definitions.{Definitions, class_named, last_named}
use Rattle.asn_meaning.specs.Objects.{field_of}
use Rattle.asn_meaning.specs.Scopes.{Scope, Empty}
use Rattle.asn_needs.specs.Dummies.{class_in_scope, filled}
use Rattle.asn_needs.specs.PartsOfConstraints.{constraint_parts, element_parts, listed_parts, set_parts}
use Rattle.asn_needs.specs.PartsOfObjects.{class_field_sites, given_parts, loose_parts, object_parts, set_items}
use Rattle.asn_needs.specs.PartsOfTypes.{argument_parts, governor_sites, type_sites}
use Rattle.asn_needs.specs.PartsOfValues.{value_sites}
use Rattle.asn_needs.specs.Sites.{Seen, Site, each_of, Form, AtHead, OfField, AtHeadOfField, AsSuch, AType, ComponentsOf, AValue, AConstraint, ASet, AnElement, AListed, LooseList, AnArgument, NoArgument, LooseArgument, ADummy, ClassName, ClassField, AnObject, GivenField, LooseField, AnObjectSet, SetName, Node, ToDefinition, ToField}

-- ---- one level

-- what stands in what stands at a place; a name, a list and a missing argument hold nothing further
abbrev pub parts_at : Seen → Site → Form → List Site
parts_at S s (AType at ty behind) = type_sites S s at ty behind
parts_at S s (ComponentsOf name) = []
parts_at S s (AValue at v p) = value_sites S s p v
parts_at S s (AConstraint c p) = constraint_parts s p (out-Constraint c)
parts_at S s (ASet asked set p) = set_parts s asked p (out-ElementOrSetOperation set)
parts_at S s (AnElement asked e p) = element_parts S s asked p (out-SubtypeElement e)
parts_at S s (AListed c p) = listed_parts S s p c
parts_at S s LooseList = []
parts_at S s (AnArgument p dummy inner) = argument_parts S s p dummy inner
parts_at S s NoArgument = []
parts_at S s (LooseArgument p) = loose_parts s (out-Parameter p)
parts_at S s (ADummy dummy) = governor_sites s dummy.param_governor
parts_at S s (ClassName name) = []
parts_at S s (ClassField at f) = class_field_sites s at f
parts_at S s (AnObject c fields) = object_parts S.defs s c (out-InformationObjectFields fields)
parts_at S s (GivenField c f) = given_parts s c (out-InformationObjectField f)
parts_at S s (LooseField f) = given_parts s None (out-InformationObjectField f)
parts_at S s (AnObjectSet c set) = set_items s c set
parts_at S s (SetName name) = []

abbrev pub parts : Seen → Site → List Site
parts S s = parts_at S s s.form

-- ---- what a definition begins with

abbrev pub dummies_of : Option Parameterization → List ParameterizationArgument
dummies_of None = []
dummies_of (Some t) = t.parameters

-- a definition is read in the empty scope, a template by itself in that of its dummies without arguments
abbrev pub own_scope : Option Parameterization → Scope
own_scope t = filled Empty (dummies_of t) []

abbrev pub outermost : Option Parameterization → Form → Site
outermost t form = record { form = form; scope = own_scope t; nest = []; is_opaque = false; way = [] }

abbrev pub class_link_name : Option ClassLink → List (List ℕ)
class_link_name None = []
class_link_name (Some (ByName name)) = name ∷ []
class_link_name (Some (ByReference name c)) = name ∷ []

-- The class of an object and of a set is read in the scope of its definition, where it may be a dummy.
abbrev pub information_forms : Definitions → Scope → Option ClassLink → ASN1Information → List Form
information_forms defs scope link (ObjectClass c) = map (ClassField OfField) c.fields
information_forms defs scope link (ObjectSet set) =
    each_of (λ name. ClassName name ∷ AnObjectSet (class_in_scope defs scope name) set ∷ []) (class_link_name link)
information_forms defs scope link (Object o) = ClassName o.class_name ∷ AnObject (class_in_scope defs scope o.class_name) o.fields ∷ []

abbrev pub dummy_forms : Option Parameterization → List Form
dummy_forms t = map ADummy (dummies_of t)

abbrev pub first_sites : Definitions → ToplevelDefinition → List Site
first_sites defs (TypeDef d) = map (outermost d.parameterization) (AType AtHead d.ty [] ∷ dummy_forms d.parameterization)
first_sites defs (Value d) =
    map (outermost d.parameterization)
    (AType AtHead d.associated_type []
    ∷ AValue AsSuch d.value (Some (place (own_scope d.parameterization) d.associated_type))
    ∷ dummy_forms d.parameterization)
first_sites defs (Information d) =
    map (outermost d.parameterization) (information_forms defs (own_scope d.parameterization) d.class d.value ++ dummy_forms d.parameterization)

-- A class's field is a node of its own: its type's head is one, and only what stands in this field stands in it.
abbrev pub node_sites : Definitions → Node → List Site
node_sites defs (ToDefinition name) = once [] (last_named defs name) (first_sites defs)
node_sites defs (ToField class name) =
    once [] (class_named defs class) (λ c. once [] (field_of c name) (λ f. outermost None (ClassField AtHeadOfField f) ∷ []))

-- ---- at every depth

-- The place is one of these, or stands in one of them at some depth: in it or, under its arguments, in a template that it
-- instantiates.
pub data StandsIn (S : Seen) (first : List Site) : Site → Type 0 where
  at_first : {s : Site} → Contains first s → StandsIn S first s
  within : {s t : Site} → StandsIn S first s → Contains (parts S s) t → StandsIn S first t

-- the places of a definition or class's field
abbrev pub IsPlaceOf : Seen → Node → Site → Type 0
IsPlaceOf S x s = StandsIn S (node_sites S.defs x) s
