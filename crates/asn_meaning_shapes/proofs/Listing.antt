-- The type of the elements of a list.
use Rattle.std.proofs.Common.{◌≡◌, Option, Some, None, refl, ap, ◌∙◌}
use Rattle.asn_tree.specs.declared.types.ASN1Type.{ASN1Type}
use Rattle.asn_meaning_shapes.specs.Parts.{type_of_elements}
use Rattle.asn_meaning.specs.Answers.{once}
use Rattle.asn_meaning.specs.Kinds.{Kind, NullKind, BooleanKind, IntegerKind, RealKind, BitStringKind, OctetStringKind, CharacterStringKind, TimeKind, EnumeratedKind, ObjectIdentifierKind, OpaqueKind, StructKind, ListKind, ChoiceKind, FieldKind, ReferenceKind, SelectionKind, kind_of}
use Rattle.asn_meaning.specs.Members.{element_in, element_place}
use Rattle.asn_meaning.specs.Scopes.{Place, Scope}

abbrev pub placed : Scope → ASN1Type → Option Place
placed scope ty = Some (record { scope = scope; ty = ty })

elements_by_kind : (scope : Scope) (k : Kind) → element_in scope k ≡ once None (type_of_elements k) (placed scope)
elements_by_kind scope NullKind = refl
elements_by_kind scope BooleanKind = refl
elements_by_kind scope (IntegerKind numbers) = refl
elements_by_kind scope RealKind = refl
elements_by_kind scope (BitStringKind bits) = refl
elements_by_kind scope OctetStringKind = refl
elements_by_kind scope (CharacterStringKind ty) = refl
elements_by_kind scope TimeKind = refl
elements_by_kind scope (EnumeratedKind items) = refl
elements_by_kind scope ObjectIdentifierKind = refl
elements_by_kind scope OpaqueKind = refl
elements_by_kind scope (StructKind x) = refl
elements_by_kind scope (ListKind ty) = refl
elements_by_kind scope (ChoiceKind options) = refl
elements_by_kind scope (FieldKind x) = refl
elements_by_kind scope (ReferenceKind x) = refl
elements_by_kind scope (SelectionKind x) = refl

pub no_elements : (h : Place) → type_of_elements (kind_of h) ≡ None → element_place h ≡ None
no_elements h e = elements_by_kind h.scope (kind_of h) ∙ ap (λ found. once None found (placed h.scope)) e

pub some_elements : (h : Place) (ty : ASN1Type) → type_of_elements (kind_of h) ≡ Some ty → element_place h ≡ Some (record { scope = h.scope; ty = ty })
some_elements h ty e = elements_by_kind h.scope (kind_of h) ∙ ap (λ found. once None found (placed h.scope)) e
