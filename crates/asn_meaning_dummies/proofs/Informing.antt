-- What names stand for, as the index tells it, and names that a scope does not bind.
use Rattle.std.proofs.Common.{◌≡◌, ℕ, Bool, true, false, ◌||◌, ◌&&◌, is_none, List, Option, Some, None, refl, ap, ◌∙◌, if◌then◌else◌}
use Rattle.std.specs.Prelude.{codes, is_some}
use Rattle.std.specs.Str.{bytes_eq}
use Rattle.asn_tree.specs.declared.definitions.ToplevelInformationDefinition.{ToplevelInformationDefinition}
use Rattle.asn_meaning_dummies.specs.inner.Information.{free_name, free_name_at}
use Rattle.asn_names_index.specs.Definitions.{last_named, seen}
use Rattle.asn_meaning.specs.Answers.{once}
use Rattle.asn_meaning.specs.Definitions.{Definitions, built_in, class_in, information_in, information_named, is_class, object_in}
use Rattle.asn_meaning.specs.Kinds.{Kind, NullKind, ReferenceKind}
use Rattle.asn_meaning.specs.Layers.{ReferenceLayer}
use Rattle.asn_meaning.specs.Scopes.{Bound, Scope, bound_to}
use Rattle.asn_needs.specs.Dummies.{is_class_at, is_object, is_object_or_class, names_type_object}

-- ---- objects and classes

pub object_is_seen : (defs : Definitions) (name : List ℕ) →
    is_object defs name ≡ once false (once None (seen defs name) information_in) (λ d. is_some (object_in d.value))
unfolding built_in
object_is_seen defs name = go (bytes_eq name (codes "TYPE-IDENTIFIER"))
  where
    go : (b : Bool) →
        once false (once None (if b then Some built_in else last_named defs name) information_in) (λ d. is_some (object_in d.value))
        ≡ once false (once None (if b then None else last_named defs name) information_in) (λ d. is_some (object_in d.value))
    go true = refl
    go false = refl

either : (o : Option ToplevelInformationDefinition) →
    once false o (λ d. is_some (class_in d.value) || is_some (object_in d.value))
    ≡ (is_some (once None o (λ d. class_in d.value)) || once false o (λ d. is_some (object_in d.value)))
either None = refl
either (Some d) = refl

pub either_class : (defs : Definitions) (name : List ℕ) → is_class defs name ≡ true → is_object_or_class defs name ≡ true
either_class defs name e = either (information_named defs name) ∙ ap (λ b. b || is_object defs name) e

pub either_object : (defs : Definitions) (name : List ℕ) → is_class defs name ≡ false → is_object_or_class defs name ≡ is_object defs name
either_object defs name e = either (information_named defs name) ∙ ap (λ b. b || is_object defs name) e

-- ---- names that a scope does not bind

-- what is asked of a name, where there is one
abbrev pub asked : (List ℕ → Bool) → Option (List ℕ) → Bool
asked f name = once false name f

by_binding : (f : List ℕ → Bool) (name : List ℕ) (b : Option Bound) → (is_none b && f name) ≡ asked f (if is_some b then None else Some name)
by_binding f name None = refl
by_binding f name (Some b) = refl

in_reference : (f : List ℕ → Bool) (scope : Scope) (x : ReferenceLayer) (parent : Option (List ℕ)) →
    (is_none parent && (is_none (bound_to scope x.identifier) && f x.identifier))
    ≡ asked f (free_name scope (elim parent [ None ↦ Some x.identifier | Some p ↦ None ]))
in_reference f scope x None = by_binding f x.identifier (bound_to scope x.identifier)
in_reference f scope x (Some parent) = refl

class_at : (defs : Definitions) (scope : Scope) (k : Kind) → is_class_at defs scope k ≡ asked (is_class defs) (free_name_at scope k)
class_at defs scope (ReferenceKind x) = in_reference (is_class defs) scope x x.parent
class_at defs scope NullKind = refl
class_at defs scope k = refl

pub class_not : (defs : Definitions) (scope : Scope) (k : Kind) → free_name_at scope k ≡ None → is_class_at defs scope k ≡ false
class_not defs scope k e = class_at defs scope k ∙ ap (asked (is_class defs)) e

pub class_name : (defs : Definitions) (scope : Scope) (k : Kind) (name : List ℕ) → free_name_at scope k ≡ Some name → is_class_at defs scope k ≡ is_class defs name
class_name defs scope k name e = class_at defs scope k ∙ ap (asked (is_class defs)) e

type_at : (defs : Definitions) (scope : Scope) (k : Kind) → names_type_object defs scope k ≡ asked (is_object_or_class defs) (free_name_at scope k)
type_at defs scope (ReferenceKind x) = in_reference (is_object_or_class defs) scope x x.parent
type_at defs scope NullKind = refl
type_at defs scope k = refl

pub type_not : (defs : Definitions) (scope : Scope) (k : Kind) → free_name_at scope k ≡ None → names_type_object defs scope k ≡ false
type_not defs scope k e = type_at defs scope k ∙ ap (asked (is_object_or_class defs)) e

pub type_name : (defs : Definitions) (scope : Scope) (k : Kind) (name : List ℕ) → free_name_at scope k ≡ Some name →
    names_type_object defs scope k ≡ is_object_or_class defs name
type_name defs scope k name e = type_at defs scope k ∙ ap (asked (is_object_or_class defs)) e
