-- The whole numbers of an element, by its form.
use Rattle.std.proofs.Common.{◌≡◌, Bool, [], Option, Some, ap, ◌∙◌}
use Rattle.asn_tree.specs.declared.constraints.SubtypeElement.{SubtypeElement, out-SubtypeElement}
use Rattle.asn_tree.specs.declared.constraints.SubtypeElement.TheVariants as element
use Rattle.asn_tree.specs.declared.types.ASN1Type.{ASN1Type}
use Rattle.asn_tree.specs.declared.values.ASN1Value.{ASN1Value}
use Rattle.asn_meaning.specs.Meaning.{Meaning, Parent}
use Rattle.asn_meaning.specs.Numbers.{every_number, no_number}
use Rattle.asn_meaning.specs.Ranges.{number_of_single, numbers_at_element, range, value_place}
use Rattle.asn_meaning.specs.Scopes.{Scope}
use Rattle.asn_meaning_ranges.specs.inner.Joining.{numbers_of_element}

pub single : (M : Meaning) (scope : Scope) (parent : Parent) (e : SubtypeElement) (v : ASN1Value) (extensible : Bool) → e ≡ element.SingleValue v extensible →
    numbers_of_element M scope parent e ≡ number_of_single M scope (value_place parent) v
single M scope parent e v extensible is = ap (numbers_at_element M scope parent) (ap out-SubtypeElement is ∙ element.outs-SingleValue v extensible)

pub contained : (M : Meaning) (scope : Scope) (parent : Parent) (e : SubtypeElement) (ty : ASN1Type) (extensible : Bool) → e ≡ element.ContainedSubtype ty extensible →
    numbers_of_element M scope parent e ≡ M.numbers (record { scope = scope; ty = ty }) []
contained M scope parent e ty extensible is = ap (numbers_at_element M scope parent) (ap out-SubtypeElement is ∙ element.outs-ContainedSubtype ty extensible)

pub ranged : (M : Meaning) (scope : Scope) (parent : Parent) (e : SubtypeElement) (low high : Option ASN1Value) (low_open high_open extensible : Bool) →
    e ≡ element.ValueRange low high low_open high_open extensible → numbers_of_element M scope parent e ≡ range M scope parent low high low_open high_open
ranged M scope parent e low high low_open high_open extensible is =
    ap (numbers_at_element M scope parent) (ap out-SubtypeElement is ∙ element.outs-ValueRange low high low_open high_open extensible)

pub alphabet : (M : Meaning) (scope : Scope) (parent : Parent) (e : SubtypeElement) (x : _) → e ≡ element.PermittedAlphabet x → numbers_of_element M scope parent e ≡ Some no_number
alphabet M scope parent e x is = ap (numbers_at_element M scope parent) (ap out-SubtypeElement is ∙ element.outs-PermittedAlphabet x)

pub sized : (M : Meaning) (scope : Scope) (parent : Parent) (e : SubtypeElement) (x : _) → e ≡ element.SizeConstraint x → numbers_of_element M scope parent e ≡ Some no_number
sized M scope parent e x is = ap (numbers_at_element M scope parent) (ap out-SubtypeElement is ∙ element.outs-SizeConstraint x)

pub typed : (M : Meaning) (scope : Scope) (parent : Parent) (e : SubtypeElement) (ty : ASN1Type) → e ≡ element.TypeConstraint ty →
    numbers_of_element M scope parent e ≡ M.numbers (record { scope = scope; ty = ty }) []
typed M scope parent e ty is = ap (numbers_at_element M scope parent) (ap out-SubtypeElement is ∙ element.outs-TypeConstraint ty)

pub component : (M : Meaning) (scope : Scope) (parent : Parent) (e : SubtypeElement) (x : _) → e ≡ element.SingleTypeConstraint x → numbers_of_element M scope parent e ≡ Some no_number
component M scope parent e x is = ap (numbers_at_element M scope parent) (ap out-SubtypeElement is ∙ element.outs-SingleTypeConstraint x)

pub components : (M : Meaning) (scope : Scope) (parent : Parent) (e : SubtypeElement) (x : _) → e ≡ element.MultipleTypeConstraints x → numbers_of_element M scope parent e ≡ Some no_number
components M scope parent e x is = ap (numbers_at_element M scope parent) (ap out-SubtypeElement is ∙ element.outs-MultipleTypeConstraints x)

pub pattern : (M : Meaning) (scope : Scope) (parent : Parent) (e : SubtypeElement) (x : _) → e ≡ element.PatternConstraint x → numbers_of_element M scope parent e ≡ Some every_number
pattern M scope parent e x is = ap (numbers_at_element M scope parent) (ap out-SubtypeElement is ∙ element.outs-PatternConstraint x)

pub user : (M : Meaning) (scope : Scope) (parent : Parent) (e : SubtypeElement) (x : _) → e ≡ element.UserDefinedConstraint x → numbers_of_element M scope parent e ≡ Some every_number
user M scope parent e x is = ap (numbers_at_element M scope parent) (ap out-SubtypeElement is ∙ element.outs-UserDefinedConstraint x)

pub settings : (M : Meaning) (scope : Scope) (parent : Parent) (e : SubtypeElement) (x : _) → e ≡ element.PropertySettings x → numbers_of_element M scope parent e ≡ Some every_number
settings M scope parent e x is = ap (numbers_at_element M scope parent) (ap out-SubtypeElement is ∙ element.outs-PropertySettings x)
