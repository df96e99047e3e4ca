-- Fields that objects and classes lack.
use Rattle.std.proofs.Common.{◌≡◌, ℕ, List, Bool, true, false, Option, Some, None, refl, sym, ap, ◌∙◌}
use Rattle.std.specs.Prelude.{◌||◌, ◌&&◌, not, is_none, is_some}
use Rattle.std.specs.Option.{option_map}
use Rattle.asn_meaning_heads.specs.Classes.{field_ty}
use Rattle.asn_tree_notation.specs.Syntax.{given_name}
use Rattle.asn_tree.specs.declared.objects.InformationObject.{InformationObject}
use Rattle.asn_tree.specs.declared.objects.InformationObjectClass.{InformationObjectClass}
use Rattle.asn_tree.specs.declared.objects.InformationObjectClassField.{InformationObjectClassField}
use Rattle.asn_tree.specs.declared.objects.InformationObjectField.{InformationObjectField, out-InformationObjectField}
use Rattle.asn_tree.specs.declared.objects.InformationObjectFields.{out-InformationObjectFields}
use Rattle.asn_tree.specs.declared.types.ASN1Type.{ASN1Type}
use Rattle.asn_meaning.specs.Answers.{once}
use Rattle.asn_meaning.specs.Definitions.{Definitions, class_named, object_named}
use Rattle.asn_meaning.specs.Kinds.{kind_of_type}
use Rattle.asn_meaning.specs.Layers.{ClassFieldLayer, FieldLayer}
use Rattle.asn_meaning.specs.Names.{FieldType, class_field_type, marked}
use Rattle.asn_meaning.specs.Objects.{field_of, given, given_at}
use Rattle.asn_meaning.specs.Scopes.{Scope, Empty}
use Rattle.asn_needs.specs.Dummies.{is_class_at, is_class_name, is_dummy}
use Rattle.asn_needs.specs.Missing.{field_lacking, fields_known, is_class_field, object_lacks}
use Rattle.asn_places_objects.proofs.Setting.{typed, untyped}

-- ---- a field whose type is the name of a class

pub untyped_field : (defs : Definitions) (o : InformationObject) (name : List ℕ) → once None (class_named defs o.class_name) (λ c. once None (field_of c name) field_ty) ≡ None → is_class_field defs o name ≡ false
untyped_field defs o name e = ap (λ t. once false t (is_class_name defs)) (untyped (class_named defs o.class_name) name e)

pub typed_field : (defs : Definitions) (o : InformationObject) (name : List ℕ) (ty : ASN1Type) (scope : Scope) → scope ≡ Empty →
    once None (class_named defs o.class_name) (λ c. once None (field_of c name) field_ty) ≡ Some ty → is_class_field defs o name ≡ is_class_at defs scope (kind_of_type ty)
typed_field defs o name ty scope empty e =
    ap (λ t. once false t (is_class_name defs)) (typed (class_named defs o.class_name) name ty e) ∙ ap (λ s. is_class_at defs s (kind_of_type ty)) (sym empty)

-- ---- what an object gives

pub fields_unknown : (defs : Definitions) (o : InformationObject) → given_at (class_named defs o.class_name) (out-InformationObjectFields o.fields) ≡ None → fields_known defs o ≡ false
fields_unknown defs o e = ap is_some e

pub fields_found : (defs : Definitions) (o : InformationObject) (fields : List InformationObjectField) →
    given_at (class_named defs o.class_name) (out-InformationObjectFields o.fields) ≡ Some fields → fields_known defs o ≡ true
fields_found defs o fields e = ap is_some e

pub nothing_given : (defs : Definitions) (o : InformationObject) (f : FieldLayer → Bool) (name : List ℕ) → given defs o name ≡ None → once false (given defs o name) (λ x. f (out-InformationObjectField x)) ≡ false
nothing_given defs o f name e = ap (λ g. once false g (λ x. f (out-InformationObjectField x))) e

pub something_given : (defs : Definitions) (o : InformationObject) (f : FieldLayer → Bool) (name : List ℕ) (x : InformationObjectField) → given defs o name ≡ Some x →
    once false (given defs o name) (λ y. f (out-InformationObjectField y)) ≡ f (out-InformationObjectField x)
something_given defs o f name x e = ap (λ g. once false g (λ y. f (out-InformationObjectField y))) e

-- ---- objects

abbrev given_wanted : Definitions → (FieldLayer → Bool) → InformationObject → List ℕ → Bool
given_wanted defs f o name = once false (given defs o name) (λ x. f (out-InformationObjectField x))

abbrev lacking_by : Definitions → (FieldLayer → Bool) → InformationObject → List ℕ → Bool → Bool → Bool
lacking_by defs f o name classed known = classed || (known && not (given_wanted defs f o name))

pub lacks_by_class : (defs : Definitions) (f : FieldLayer → Bool) (o : InformationObject) (name : List ℕ) → is_class_field defs o name ≡ true → object_lacks defs f o name ≡ true
lacks_by_class defs f o name e = ap (λ b. lacking_by defs f o name b (fields_known defs o)) e

pub lacks_given : (defs : Definitions) (f : FieldLayer → Bool) (o : InformationObject) (name : List ℕ) → is_class_field defs o name ≡ false → fields_known defs o ≡ true →
    object_lacks defs f o name ≡ not (once false (given defs o name) (λ x. f (out-InformationObjectField x)))
lacks_given defs f o name e k = ap (λ b. lacking_by defs f o name b (fields_known defs o)) e ∙ ap (lacking_by defs f o name false) k

pub lacks_unknown : (defs : Definitions) (f : FieldLayer → Bool) (o : InformationObject) (name : List ℕ) → is_class_field defs o name ≡ false → fields_known defs o ≡ false → object_lacks defs f o name ≡ false
lacks_unknown defs f o name e k = ap (λ b. lacking_by defs f o name b (fields_known defs o)) e ∙ ap (lacking_by defs f o name false) k

-- the object of this name, which is no dummy
abbrev named_lacks : Definitions → Scope → (FieldLayer → Bool) → List ℕ → List ℕ → Bool
named_lacks defs scope f o name = not (is_dummy scope o) && once false (object_named defs o) (λ x. object_lacks defs f x (marked name))

pub object_dummy : (defs : Definitions) (scope : Scope) (f : FieldLayer → Bool) (o name : List ℕ) → is_dummy scope o ≡ true → named_lacks defs scope f o name ≡ false
object_dummy defs scope f o name e = ap (λ b. not b && once false (object_named defs o) (λ x. object_lacks defs f x (marked name))) e

pub object_missing : (defs : Definitions) (scope : Scope) (f : FieldLayer → Bool) (o name : List ℕ) → is_dummy scope o ≡ false → object_named defs o ≡ None → named_lacks defs scope f o name ≡ false
object_missing defs scope f o name e none =
    ap (λ b. not b && once false (object_named defs o) (λ x. object_lacks defs f x (marked name))) e ∙ ap (λ x. once false x (λ y. object_lacks defs f y (marked name))) none

pub object_there : (defs : Definitions) (scope : Scope) (f : FieldLayer → Bool) (o name : List ℕ) (x : InformationObject) → is_dummy scope o ≡ false → object_named defs o ≡ Some x →
    named_lacks defs scope f o name ≡ object_lacks defs f x (marked name)
object_there defs scope f o name x e some =
    ap (λ b. not b && once false (object_named defs o) (λ y. object_lacks defs f y (marked name))) e ∙ ap (λ y. once false y (λ z. object_lacks defs f z (marked name))) some

-- ---- classes

-- the class of this name, which is no dummy
abbrev named_class : Definitions → Scope → ClassFieldLayer → Bool
named_class defs scope x = not (is_dummy scope x.class) && (is_some (class_named defs x.class) && is_none (class_field_type defs scope x))

abbrev class_by : Bool → Option InformationObjectClass → Option FieldType → Bool
class_by dummy class ty = not dummy && (is_some class && is_none ty)

pub class_dummy : (defs : Definitions) (scope : Scope) (x : ClassFieldLayer) → is_dummy scope x.class ≡ true → named_class defs scope x ≡ false
class_dummy defs scope x e = ap (λ b. class_by b (class_named defs x.class) (class_field_type defs scope x)) e

pub class_missing : (defs : Definitions) (scope : Scope) (x : ClassFieldLayer) → is_dummy scope x.class ≡ false → class_named defs x.class ≡ None → named_class defs scope x ≡ false
class_missing defs scope x e none =
    ap (λ b. class_by b (class_named defs x.class) (class_field_type defs scope x)) e ∙ ap (λ c. class_by false c (class_field_type defs scope x)) none

pub class_untyped : (defs : Definitions) (scope : Scope) (x : ClassFieldLayer) (c : InformationObjectClass) → is_dummy scope x.class ≡ false → class_named defs x.class ≡ Some c →
    class_field_type defs scope x ≡ None → named_class defs scope x ≡ true
class_untyped defs scope x c e some none =
    ap (λ b. class_by b (class_named defs x.class) (class_field_type defs scope x)) e ∙ ap (λ k. class_by false k (class_field_type defs scope x)) some ∙ ap (class_by false (Some c)) none

pub class_typed : (defs : Definitions) (scope : Scope) (x : ClassFieldLayer) (c : InformationObjectClass) (ty : FieldType) → is_dummy scope x.class ≡ false → class_named defs x.class ≡ Some c →
    class_field_type defs scope x ≡ Some ty → named_class defs scope x ≡ false
class_typed defs scope x c ty e some is =
    ap (λ b. class_by b (class_named defs x.class) (class_field_type defs scope x)) e ∙ ap (λ k. class_by false k (class_field_type defs scope x)) some ∙ ap (class_by false (Some c)) is

-- ---- fields that an object gives

lacking_is : (c : InformationObjectClass) (name : List ℕ) → is_none (field_of c name) ≡ is_none (option_map field_ty (field_of c name))
lacking_is c name = go (field_of c name)
  where
    go : (o : Option InformationObjectClassField) → is_none o ≡ is_none (option_map field_ty o)
    go None = refl
    go (Some f) = refl

pub given_lacking : (c : InformationObjectClass) (f : InformationObjectField) → option_map field_ty (field_of c (given_name f)) ≡ None → field_lacking (Some c) f ≡ true
given_lacking c f e = lacking_is c (given_name f) ∙ ap is_none e

pub given_had : (c : InformationObjectClass) (f : InformationObjectField) (ty : Option ASN1Type) → option_map field_ty (field_of c (given_name f)) ≡ Some ty → field_lacking (Some c) f ≡ false
given_had c f ty e = lacking_is c (given_name f) ∙ ap is_none e
