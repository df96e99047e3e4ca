-- What stands in an object, an object set and a class's field.
use Rattle.std.specs.Prelude.{ℕ, List, [], ◌∷◌, ◌++◌, map, Bool, false, Option, Some, None, is_none, is_some, if◌then◌else◌}
use Rattle.asn_tree_kinds.specs.declared.objects.ObjectSetValueOver.{ObjectSetValueOver}
use Rattle.asn_tree_kinds.specs.declared.objects.ObjectSetValueOver.TheVariants.{Reference, Inline}
use Rattle.asn_tree.specs.declared.constraints.Parameter.{Parameter-F}
use Rattle.asn_tree.specs.declared.objects.InformationObjectClass.{InformationObjectClass}
use Rattle.asn_tree.specs.declared.objects.InformationObjectClassField.{InformationObjectClassField}
use Rattle.asn_tree.specs.declared.objects.InformationObjectField.{InformationObjectField, InformationObjectField-F}
use Rattle.asn_tree.specs.declared.objects.InformationObjectFields.{InformationObjectFields, InformationObjectFields-F, out-InformationObjectFields}
use Rattle.asn_tree.specs.declared.objects.SyntaxApplication.{SyntaxApplication, SyntaxApplication-F, out-SyntaxApplication}
use Rattle.asn_tree.specs.declared.types.ASN1Type.{ASN1Type}
use Rattle.asn_tree.specs.declared.values.ASN1Value.{ASN1Value}
use Rattle.asn_meaning.specs.Accepts.{place}
use Rattle.asn_meaning.specs.Answers.{once}
use Rattle.asn_meaning.specs.Definitions.{Definitions, information_named, class_in}
use Rattle.asn_meaning.specs.Layers.{FieldLayer, FieldsLayer, ItemLayer, ParameterLayer}
use Rattle.asn_meaning.specs.Objects.{field_of, given_at}
use Rattle.asn_meaning.specs.Scopes.{Empty, Place}
use Rattle.asn_meaning.specs.Written.{as_written}
use Rattle.asn_needs.specs.Dummies.{argument_name, name_of_value}
use Rattle.asn_needs.specs.Sites.{Site, beside, each_of, ObjectSet, TypePlace, AsSuch, InPlace, AType, AValue, AnObject, GivenField, LooseField, AnObjectSet, SetName}

-- ---- objects

-- the plain name that an item is
abbrev pub item_name : ItemLayer → Option (List ℕ)
item_name (SyntaxApplication-F.ObjectSetDeclaration set) = None
item_name (SyntaxApplication-F.ValueReference v) = name_of_value (as_written v)
item_name (SyntaxApplication-F.TypeReference ty) = None
item_name SyntaxApplication-F.Comma = None
item_name (SyntaxApplication-F.Literal word) = None
item_name (SyntaxApplication-F.LiteralOrTypeReference x) = if is_none x.parent then Some x.identifier else None

abbrev pub is_object_or_set : Definitions → List ℕ → Bool
is_object_or_set defs name = once false (information_named defs name) (λ d. is_none (class_in d.value))

abbrev pub first_name : Definitions → List SyntaxApplication → Option (List ℕ)
first_name defs [] = None
first_name defs (item ∷ items) = once None (item_name (out-SyntaxApplication item)) (λ name. if is_object_or_set defs name then Some name else None)

abbrev pub items_name : Definitions → FieldsLayer → Option (List ℕ)
items_name defs (InformationObjectFields-F.DefaultSyntax fields) = None
items_name defs (InformationObjectFields-F.CustomSyntax items) = first_name defs items

-- An object whose items do not follow the syntax becomes the set that its first item names.
abbrev pub becomes : Definitions → Option InformationObjectClass → FieldsLayer → List (List ℕ)
becomes defs None fields = []
becomes defs (Some c) fields = once [] (items_name defs fields) (λ name. name ∷ [])

-- The fields that it gives. In custom syntax an item that a literal takes, or that a value field takes as a number, is no
-- name. Where the items find no syntax in the class or do not follow it, no name stands in them.
abbrev pub object_parts : Definitions → Site → Option InformationObjectClass → FieldsLayer → List Site
object_parts defs s c fields =
    once (map (λ name. beside s (SetName name)) (becomes defs c fields)) (given_at c fields) (λ given. map (λ f. beside s (GivenField c f)) given)

-- the type of the field in the class
abbrev pub type_in_class : Option InformationObjectClass → List ℕ → Option Place
type_in_class c name = once None c (λ k. once None (field_of k name) (λ f. once None f.ty (λ ty. Some (place Empty ty))))

-- The plain name that a field is given, where the class is not asked: it may be that of a value or of an object, and nothing
-- stands in it (X.681 11.4).
abbrev pub unclassed_name : Option InformationObjectClass → FieldLayer → Option (List ℕ)
unclassed_name (Some c) f = None
unclassed_name None (InformationObjectField-F.TypeField x) = None
unclassed_name None (InformationObjectField-F.FixedValueField x) = name_of_value (as_written x.value)
unclassed_name None (InformationObjectField-F.ObjectSetField x) = None

abbrev pub setting_parts : Site → Option InformationObjectClass → FieldLayer → List Site
setting_parts s c (InformationObjectField-F.TypeField x) = beside s (AType InPlace x.ty []) ∷ []
setting_parts s c (InformationObjectField-F.FixedValueField x) = beside s (AValue AsSuch x.value (type_in_class c x.identifier)) ∷ []
setting_parts s c (InformationObjectField-F.ObjectSetField x) = beside s (AnObjectSet None x.value) ∷ []

abbrev pub given_parts : Site → Option InformationObjectClass → FieldLayer → List Site
given_parts s c f = if is_some (unclassed_name c f) then [] else setting_parts s c f

-- ---- object sets

abbrev pub written_fields : FieldsLayer → List InformationObjectField
written_fields (InformationObjectFields-F.DefaultSyntax fields) = fields
written_fields (InformationObjectFields-F.CustomSyntax items) = []

-- the fields of an object whose class is not asked; items in custom syntax have no known names then
abbrev pub loose_fields : Site → InformationObjectFields → List Site
loose_fields s fields = map (λ f. beside s (LooseField f)) (written_fields (out-InformationObjectFields fields))

abbrev pub inline_sites : Site → Option InformationObjectClass → InformationObjectFields → List Site
inline_sites s None fields = loose_fields s fields
inline_sites s (Some c) fields = if s.is_opaque then loose_fields s fields else beside s (AnObject (Some c) fields) ∷ []

abbrev pub item_sites : Site → Option InformationObjectClass → ObjectSetValueOver InformationObjectFields → List Site
item_sites s c (Reference name) = beside s (SetName name) ∷ []
item_sites s c (Inline fields) = inline_sites s c fields

abbrev pub set_items : Site → Option InformationObjectClass → ObjectSet → List Site
set_items s c set = each_of (item_sites s c) set.values

-- ---- classes

abbrev pub field_type_sites : Site → TypePlace → Option ASN1Type → List Site
field_type_sites s at None = []
field_type_sites s at (Some ty) = beside s (AType at ty []) ∷ []

abbrev pub field_default_sites : Site → Option ASN1Type → Option ASN1Value → List Site
field_default_sites s ty None = []
field_default_sites s ty (Some v) = beside s (AValue AsSuch v (once None ty (λ t. Some (place s.scope t)))) ∷ []

abbrev pub class_field_sites : Site → TypePlace → InformationObjectClassField → List Site
class_field_sites s at f = field_type_sites s at f.ty ++ field_default_sites s f.ty f.default

-- ---- arguments without a dummy

abbrev pub unnamed_parts : Site → ParameterLayer → List Site
unnamed_parts s (Parameter-F.ValueParameter v) = beside s (AValue AsSuch v None) ∷ []
unnamed_parts s (Parameter-F.TypeParameter ty) = beside s (AType InPlace ty []) ∷ []
unnamed_parts s (Parameter-F.InformationObjectParameter fields) = loose_fields s fields
unnamed_parts s (Parameter-F.ObjectSetParameter set) = beside s (AnObjectSet None set) ∷ []

-- Names in them are judged all the same, kinds are not: nothing stands in a plain name, which may be that of any definition.
abbrev pub loose_parts : Site → ParameterLayer → List Site
loose_parts s p = if is_some (argument_name p) then [] else unnamed_parts s p
