-- The component that WITH COMPONENTS lists, by the kind of the head.
use Rattle.std.proofs.Common.{◌≡◌, ℕ, List, Option, Some, None, refl, ap, ◌∙◌}
use Rattle.asn_places_constraints.specs.inner.Choices.{choice_in}
use Rattle.asn_tree.specs.declared.types.ChoiceOption.{ChoiceOption}
use Rattle.asn_meaning.specs.Accepts.{place}
use Rattle.asn_meaning.specs.Answers.{once}
use Rattle.asn_meaning.specs.Kinds.{Kind, NullKind, BooleanKind, IntegerKind, RealKind, BitStringKind, OctetStringKind, CharacterStringKind, TimeKind, EnumeratedKind, ObjectIdentifierKind, OpaqueKind, StructKind, ListKind, ChoiceKind, FieldKind, ReferenceKind, SelectionKind}
use Rattle.asn_meaning.specs.Meaning.{Meaning}
use Rattle.asn_meaning.specs.Members.{member_named, member_place, members_of}
use Rattle.asn_meaning.specs.Names.{option_named}
use Rattle.asn_meaning.specs.Scopes.{Place}
use Rattle.asn_needs.specs.PartsOfConstraints.{listed_in}

abbrev pub option_in : Place → List ℕ → List ChoiceOption → Option Place
option_in head name options = once None (option_named options name) (λ o. Some (place head.scope o.ty))

abbrev pub member_in : Meaning → Place → List ℕ → Option Place
member_in M head name = once None (members_of M head) (λ ms. once None (member_named ms name) (λ m. Some (member_place m)))

abbrev by_options : Meaning → Place → List ℕ → Option (List ChoiceOption) → Option Place
by_options M head name options = once (member_in M head name) options (option_in head name)

listed_by_kind : (M : Meaning) (head : Place) (name : List ℕ) (k : Kind) → listed_in M head name k ≡ by_options M head name (choice_in k)
listed_by_kind M head name NullKind = refl
listed_by_kind M head name BooleanKind = refl
listed_by_kind M head name (IntegerKind numbers) = refl
listed_by_kind M head name RealKind = refl
listed_by_kind M head name (BitStringKind bits) = refl
listed_by_kind M head name OctetStringKind = refl
listed_by_kind M head name (CharacterStringKind ty) = refl
listed_by_kind M head name TimeKind = refl
listed_by_kind M head name (EnumeratedKind items) = refl
listed_by_kind M head name ObjectIdentifierKind = refl
listed_by_kind M head name OpaqueKind = refl
listed_by_kind M head name (StructKind x) = refl
listed_by_kind M head name (ListKind ty) = refl
listed_by_kind M head name (ChoiceKind options) = refl
listed_by_kind M head name (FieldKind x) = refl
listed_by_kind M head name (ReferenceKind x) = refl
listed_by_kind M head name (SelectionKind x) = refl

pub listed_choice : (M : Meaning) (head : Place) (name : List ℕ) (k : Kind) (options : List ChoiceOption) → choice_in k ≡ Some options → listed_in M head name k ≡ option_in head name options
listed_choice M head name k options e = listed_by_kind M head name k ∙ ap (by_options M head name) e

pub listed_other : (M : Meaning) (head : Place) (name : List ℕ) (k : Kind) → choice_in k ≡ None → listed_in M head name k ≡ member_in M head name
listed_other M head name k e = listed_by_kind M head name k ∙ ap (by_options M head name) e
