-- What a constraint is put on while it is read, and what the laws leave open to whoever reads it.
use Rattle.std.specs.Prelude.{ℕ, Bool, true, List, [], ◌∷◌, ◌++◌, Option, Some, None}
use Rattle.asn_tree_kinds.specs.declared.constraints.TableConstraintOver.{TableConstraintOver}
use Rattle.asn_tree.specs.declared.objects.InformationObjectFields.{InformationObjectFields}
use Rattle.asn_tree.specs.declared.values.ASN1Value.{ASN1Value}
use Rattle.asn_meaning.specs.Answers.{once}
use Rattle.asn_meaning.specs.Definitions.{plain_identifier}
use Rattle.asn_meaning.specs.Everything.{plain_text}
use Rattle.asn_meaning.specs.Meaning.{Meaning}
use Rattle.asn_meaning.specs.Ranges.{integer_of}
use Rattle.asn_meaning.specs.Scopes.{Scope, Empty, Place}

-- The values of a type, by its head; or the characters of a string (X.680 51.1, 51.7).
pub data Subject : Type 0 where
  OnValues : Place → Subject
  OnCharacters : Subject

-- the type that single values are read under
abbrev pub values_read : Subject → Place
values_read (OnValues head) = head
values_read OnCharacters = plain_text

-- the type that the ends of ranges are read under
abbrev pub ends_read : Subject → Place
ends_read (OnValues head) = integer_of head
ends_read OnCharacters = plain_text

-- the type that the encoding rules of a content are read under
abbrev pub rules_read : Place
rules_read = record { scope = Empty; ty = plain_identifier }

abbrev pub TableLayer : Type 0
TableLayer = TableConstraintOver InformationObjectFields

-- What meaning does not determine: how a value is written that replaces another of the same tree, and what becomes of
-- table constraints, which say yes to every tree; and which names stay.
pub record Choices : Type 0 where
  -- a single value, written in a scope and read under a type
  pub value : Meaning → Scope → ASN1Value → Place → Option ASN1Value
  -- an end of a range, read under a type
  pub end : Meaning → Scope → ASN1Value → Place → Option ASN1Value
  -- a member's default, read under the member's type; and the encoding rules of a content
  pub default : Meaning → Scope → ASN1Value → Place → Option ASN1Value
  pub table : Meaning → Scope → TableLayer → Option TableLayer
  -- whether the name may stay, behind the name of an object or alone; the name of a class too
  pub keeps : Option (List ℕ) → List ℕ → Bool

-- the same choices, but that every name may stay
abbrev pub keeping_all : Choices → Choices
keeping_all C = record C { keeps = λ object name. true }

-- what is made of each item, in order, once all of it is known
abbrev pub gathered : {A B : Type 0} → (A → Option (List B)) → List A → Option (List B)
gathered f [] = Some []
gathered f (x ∷ xs) = once None (f x) (λ ys. once None (gathered f xs) (λ zs. Some (ys ++ zs)))

abbrev pub traversed : {A B : Type 0} → (A → Option B) → List A → Option (List B)
traversed f [] = Some []
traversed f (x ∷ xs) = once None (f x) (λ y. once None (traversed f xs) (λ ys. Some (y ∷ ys)))

-- what is made of something that may be absent
abbrev pub perhaps : {A B : Type 0} → (A → Option B) → Option A → Option (Option B)
perhaps f None = Some None
perhaps f (Some x) = once None (f x) (λ y. Some (Some y))
