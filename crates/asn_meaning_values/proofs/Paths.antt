-- What objects give for fields, step by step.
use Rattle.std.proofs.Common.{◌≡◌, ℕ, List, Option, Some, None, refl, ap, ◌∙◌}
use Rattle.asn_tree.specs.declared.objects.InformationObject.{InformationObject}
use Rattle.asn_tree.specs.declared.objects.InformationObjectField.{InformationObjectField, out-InformationObjectField}
use Rattle.asn_tree.specs.declared.types.ASN1Type.{ASN1Type}
use Rattle.asn_tree.specs.declared.values.ASN1Value.{ASN1Value}
use Rattle.asn_meaning_values.specs.inner.Reading.{given_value}
use Rattle.asn_meaning.specs.Answers.{once}
use Rattle.asn_meaning.specs.Definitions.{Definitions, object_named}
use Rattle.asn_meaning.specs.Denotes.{Read, path_value, value_of_field}
use Rattle.asn_meaning.specs.Names.{FieldType, object_field, object_field_type}
use Rattle.asn_meaning.specs.Scopes.{Scope}

pub given_none : (defs : Definitions) (scope : Scope) (o name : List ℕ) → object_field defs scope o name ≡ None → given_value defs scope o name ≡ None
given_none defs scope o name e = ap (λ f. once None f (λ f. value_of_field (out-InformationObjectField f))) e

pub given_some : (defs : Definitions) (scope : Scope) (o name : List ℕ) (f : InformationObjectField) → object_field defs scope o name ≡ Some f →
    given_value defs scope o name ≡ value_of_field (out-InformationObjectField f)
given_some defs scope o name f e = ap (λ f. once None f (λ f. value_of_field (out-InformationObjectField f))) e

-- the value with the type of the field, where the object is there and its class has the field
abbrev typed : Definitions → List ℕ → List ℕ → ASN1Value → Option (ASN1Value × FieldType)
typed defs o name v = once None (object_named defs o) (λ object. once None (object_field_type defs object name) (λ ty. Some (v, ty)))

by_value : (defs : Definitions) (scope : Scope) (o name : List ℕ) → path_value defs scope o name ≡ once None (given_value defs scope o name) (typed defs o name)
by_value defs scope o name = go (object_field defs scope o name)
  where
    go : (f : Option InformationObjectField) →
        once None f (λ f. once None (value_of_field (out-InformationObjectField f)) (typed defs o name))
        ≡ once None (once None f (λ f. value_of_field (out-InformationObjectField f))) (typed defs o name)
    go None = refl
    go (Some f) = refl

pub path_valueless : (defs : Definitions) (scope : Scope) (o name : List ℕ) → given_value defs scope o name ≡ None → path_value defs scope o name ≡ None
path_valueless defs scope o name e = by_value defs scope o name ∙ ap (λ v. once None v (typed defs o name)) e

valued : (defs : Definitions) (scope : Scope) (o name : List ℕ) (v : ASN1Value) → given_value defs scope o name ≡ Some v → path_value defs scope o name ≡ typed defs o name v
valued defs scope o name v e = by_value defs scope o name ∙ ap (λ v. once None v (typed defs o name)) e

pub path_objectless : (defs : Definitions) (scope : Scope) (o name : List ℕ) (v : ASN1Value) → given_value defs scope o name ≡ Some v → object_named defs o ≡ None →
    path_value defs scope o name ≡ None
path_objectless defs scope o name v e f =
    valued defs scope o name v e ∙ ap (λ object. once None object (λ object. once None (object_field_type defs object name) (λ ty. Some (v, ty)))) f

pub path_typeless : (defs : Definitions) (scope : Scope) (o name : List ℕ) (v : ASN1Value) (object : InformationObject) → given_value defs scope o name ≡ Some v → object_named defs o ≡ Some object →
    object_field_type defs object name ≡ None → path_value defs scope o name ≡ None
path_typeless defs scope o name v object e f g =
    valued defs scope o name v e
    ∙ ap (λ object. once None object (λ object. once None (object_field_type defs object name) (λ ty. Some (v, ty)))) f
    ∙ ap (λ ty. once None ty (λ ty. Some (v, ty))) g

pub path_typed : (defs : Definitions) (scope : Scope) (o name : List ℕ) (v : ASN1Value) (object : InformationObject) (ty : FieldType) → given_value defs scope o name ≡ Some v →
    object_named defs o ≡ Some object → object_field_type defs object name ≡ Some ty → path_value defs scope o name ≡ Some (v, ty)
path_typed defs scope o name v object ty e f g =
    valued defs scope o name v e
    ∙ ap (λ object. once None object (λ object. once None (object_field_type defs object name) (λ ty. Some (v, ty)))) f
    ∙ ap (λ ty. once None ty (λ ty. Some (v, ty))) g

-- ---- values outside templates

-- a value under a type, both read in a scope
abbrev pub read_in : ASN1Value → ASN1Type → Scope → Read
read_in v ty scope = record { scope = scope; value = v; place = record { scope = scope; ty = ty } }
