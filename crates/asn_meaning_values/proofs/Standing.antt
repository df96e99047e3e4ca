-- What names and paths of values stand for, by the outcome of each look-up.
use Rattle.std.proofs.Common.{◌≡◌, ℕ, List, Option, Some, None, refl, sym, ap, ◌∙◌}
use Rattle.asn_tree.specs.declared.definitions.ToplevelValueDefinition.{ToplevelValueDefinition}
use Rattle.asn_tree.specs.declared.values.ASN1Value.{ASN1Value}
use Rattle.asn_meaning_values.specs.inner.Standing.{Stands, ForTree, ForRead, ForOpen, ForNothing, defined_stands, dummy_stands, field_stands, name_stands, own_or, own_or_defined, path_stands, reference_stands, stands_denoted}
use Rattle.asn_meaning.specs.Answers.{Denotation, Denoted, Unsure, once}
use Rattle.asn_meaning.specs.Definitions.{Definitions, value_named}
use Rattle.asn_meaning.specs.Denotes.{Read, argument_of, defined_denoted, defined_read, field_denoted, name_denoted, own_name, own_or_defined as own_or_denoted, path_value, read_denoted, reference_denoted, shaped}
use Rattle.asn_meaning.specs.Meaning.{Meaning}
use Rattle.asn_meaning.specs.Names.{FieldType, Open, Fixed}
use Rattle.asn_meaning.specs.Scopes.{Scope, Bound, bound_to, Place}
use Rattle.asn_meaning.specs.ValueTrees.{ValueTree, Opaque}

-- ---- look-ups

pub dummy_lost : (scope : Scope) (b : Bound) → argument_of scope b ≡ None → dummy_stands scope b ≡ ForNothing
dummy_lost scope b e = ap (λ r. once ForNothing r ForRead) e

pub dummy_read : (scope : Scope) (b : Bound) (r : Read) → argument_of scope b ≡ Some r → dummy_stands scope b ≡ ForRead r
dummy_read scope b r e = ap (λ r. once ForNothing r ForRead) e

pub defined_lost : (defs : Definitions) (name : List ℕ) → value_named defs name ≡ None → defined_stands defs name ≡ ForNothing
defined_lost defs name e = ap (λ d. once ForNothing d (λ d. ForRead (defined_read d))) e

pub defined_found : (defs : Definitions) (name : List ℕ) (d : ToplevelValueDefinition) → value_named defs name ≡ Some d → defined_stands defs name ≡ ForRead (defined_read d)
defined_found defs name d e = ap (λ d. once ForNothing d (λ d. ForRead (defined_read d))) e

pub own_lost : (defs : Definitions) (head : Place) (name : List ℕ) → own_name head name ≡ None → own_or_defined defs head name ≡ defined_stands defs name
own_lost defs head name e = ap (λ t. own_or t (defined_stands defs name)) e

pub own_found : (defs : Definitions) (head : Place) (name : List ℕ) (t : ValueTree) → own_name head name ≡ Some t → own_or_defined defs head name ≡ ForTree t
own_found defs head name t e = ap (λ t. own_or t (defined_stands defs name)) e

pub name_bound : (defs : Definitions) (scope : Scope) (head : Place) (name : List ℕ) (b : Bound) → bound_to scope name ≡ Some b →
    name_stands defs scope head name (bound_to scope name) ≡ dummy_stands scope b
name_bound defs scope head name b e = ap (name_stands defs scope head name) e

pub name_free : (defs : Definitions) (scope : Scope) (head : Place) (name : List ℕ) → bound_to scope name ≡ None →
    name_stands defs scope head name (bound_to scope name) ≡ own_or_defined defs head name
name_free defs scope head name e = ap (name_stands defs scope head name) e

pub path_lost : (defs : Definitions) (scope : Scope) (o name : List ℕ) → path_value defs scope o name ≡ None → path_stands defs scope o name ≡ ForNothing
path_lost defs scope o name e = ap (λ f. once ForNothing f field_stands) e

pub path_found : (defs : Definitions) (scope : Scope) (o name : List ℕ) (f : ASN1Value × FieldType) → path_value defs scope o name ≡ Some f → path_stands defs scope o name ≡ field_stands f
path_found defs scope o name f e = ap (λ f. once ForNothing f field_stands) e

-- ---- what is denoted by what stands for a name

of_dummy : (M : Meaning) (head : Place) (r : Option Read) → once Unsure r (λ r. shaped M head (read_denoted M r)) ≡ stands_denoted M head (once ForNothing r ForRead)
of_dummy M head None = refl
of_dummy M head (Some r) = refl

of_definition : (M : Meaning) (head : Place) (d : Option ToplevelValueDefinition) →
    once Unsure d (λ d. shaped M head (read_denoted M (defined_read d))) ≡ stands_denoted M head (once ForNothing d (λ d. ForRead (defined_read d)))
of_definition M head None = refl
of_definition M head (Some d) = refl

of_own : (M : Meaning) (head : Place) (t : Option ValueTree) (d : Denotation ValueTree) (s : Stands) → d ≡ stands_denoted M head s → own_or_denoted t d ≡ stands_denoted M head (own_or t s)
of_own M head None d s e = e
of_own M head (Some t) d s e = refl

of_field : (M : Meaning) (head : Place) (f : ASN1Value × FieldType) → shaped M head (field_denoted M f) ≡ stands_denoted M head (field_stands f)
of_field M head (v, Open) = refl
of_field M head (v, Fixed ty) = refl

of_path : (M : Meaning) (head : Place) (f : Option (ASN1Value × FieldType)) →
    once Unsure f (λ f. shaped M head (field_denoted M f)) ≡ stands_denoted M head (once ForNothing f field_stands)
of_path M head None = refl
of_path M head (Some f) = of_field M head f

of_name : (defs : Definitions) (M : Meaning) (scope : Scope) (head : Place) (name : List ℕ) (b : Option Bound) →
    name_denoted defs M scope head name b ≡ stands_denoted M head (name_stands defs scope head name b)
of_name defs M scope head name (Some b) = of_dummy M head (argument_of scope b)
of_name defs M scope head name None =
    of_own M head (own_name head name) (defined_denoted defs M head name) (defined_stands defs name) (of_definition M head (value_named defs name))

of_reference : (defs : Definitions) (M : Meaning) (scope : Scope) (head : Place) (parent : Option (List ℕ)) (name : List ℕ) →
    reference_denoted defs M scope head parent name ≡ stands_denoted M head (reference_stands defs scope head parent name)
of_reference defs M scope head None name = of_name defs M scope head name (bound_to scope name)
of_reference defs M scope head (Some o) name = of_path M head (path_value defs scope o name)

pub stands_tree : (defs : Definitions) (M : Meaning) (scope : Scope) (head : Place) (parent : Option (List ℕ)) (name : List ℕ) (t : ValueTree) →
    reference_stands defs scope head parent name ≡ ForTree t → reference_denoted defs M scope head parent name ≡ Denoted t
stands_tree defs M scope head parent name t e = of_reference defs M scope head parent name ∙ ap (stands_denoted M head) e

pub stands_read : (defs : Definitions) (M : Meaning) (scope : Scope) (head : Place) (parent : Option (List ℕ)) (name : List ℕ) (r : Read) (d : Denotation ValueTree) →
    reference_stands defs scope head parent name ≡ ForRead r → d ≡ M.denotes r.scope r.value r.place → reference_denoted defs M scope head parent name ≡ shaped M head d
stands_read defs M scope head parent name r d e f =
    of_reference defs M scope head parent name ∙ ap (stands_denoted M head) e ∙ sym (ap (shaped M head) f)

pub stands_open : (defs : Definitions) (M : Meaning) (scope : Scope) (head : Place) (parent : Option (List ℕ)) (name : List ℕ) (d : Denotation ValueTree) →
    reference_stands defs scope head parent name ≡ ForOpen → d ≡ Denoted Opaque → reference_denoted defs M scope head parent name ≡ shaped M head d
stands_open defs M scope head parent name d e f =
    of_reference defs M scope head parent name ∙ ap (stands_denoted M head) e ∙ sym (ap (shaped M head) f)

pub stands_lost : (defs : Definitions) (M : Meaning) (scope : Scope) (head : Place) (parent : Option (List ℕ)) (name : List ℕ) →
    reference_stands defs scope head parent name ≡ ForNothing → reference_denoted defs M scope head parent name ≡ Unsure
stands_lost defs M scope head parent name e = of_reference defs M scope head parent name ∙ ap (stands_denoted M head) e
