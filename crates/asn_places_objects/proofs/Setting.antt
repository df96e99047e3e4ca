-- The type of a class's field, as one that governs.
use Rattle.std.proofs.Common.{◌≡◌, ℕ, List, Option, Some, None, refl, ap, ◌∙◌}
use Rattle.std.specs.Option.{option_map}
use Rattle.asn_meaning_heads.specs.Classes.{field_ty}
use Rattle.asn_tree.specs.declared.objects.InformationObjectClass.{InformationObjectClass}
use Rattle.asn_tree.specs.declared.objects.InformationObjectClassField.{InformationObjectClassField}
use Rattle.asn_tree.specs.declared.types.ASN1Type.{ASN1Type}
use Rattle.asn_meaning.specs.Accepts.{place}
use Rattle.asn_meaning.specs.Answers.{once}
use Rattle.asn_meaning.specs.Objects.{field_of}
use Rattle.asn_meaning.specs.Scopes.{Empty, Place}
use Rattle.asn_needs.specs.PartsOfObjects.{type_in_class}

-- ---- a field by its name

through : (o : Option InformationObjectClassField) → once None o field_ty ≡ once None (option_map field_ty o) (λ ty. ty)
through None = refl
through (Some f) = refl

pub no_field : (c : InformationObjectClass) (name : List ℕ) → option_map field_ty (field_of c name) ≡ None → once None (field_of c name) field_ty ≡ None
no_field c name e = through (field_of c name) ∙ ap (λ o. once None o (λ ty. ty)) e

pub some_field : (c : InformationObjectClass) (name : List ℕ) (ty : Option ASN1Type) → option_map field_ty (field_of c name) ≡ Some ty → once None (field_of c name) field_ty ≡ ty
some_field c name ty e = through (field_of c name) ∙ ap (λ o. once None o (λ ty. ty)) e

-- ---- its type as one that governs

-- the type of the field of the name, where the class is asked
abbrev type_by : Option InformationObjectClass → List ℕ → Option ASN1Type
type_by c name = once None c (λ k. once None (field_of k name) field_ty)

abbrev placed : Option ASN1Type → Option Place
placed o = once None o (λ ty. Some (place Empty ty))

type_is : (c : Option InformationObjectClass) (name : List ℕ) → type_in_class c name ≡ placed (type_by c name)
type_is None name = refl
type_is (Some k) name = go (field_of k name)
  where
    go : (o : Option InformationObjectClassField) → once None o (λ f. once None f.ty (λ ty. Some (place Empty ty))) ≡ placed (once None o field_ty)
    go None = refl
    go (Some f) = refl

pub untyped : (c : Option InformationObjectClass) (name : List ℕ) → once None c (λ k. once None (field_of k name) field_ty) ≡ None → type_in_class c name ≡ None
untyped c name e = type_is c name ∙ ap placed e

pub typed : (c : Option InformationObjectClass) (name : List ℕ) (ty : ASN1Type) → once None c (λ k. once None (field_of k name) field_ty) ≡ Some ty → type_in_class c name ≡ Some (place Empty ty)
typed c name ty e = type_is c name ∙ ap placed e
