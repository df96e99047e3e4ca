-- Heads, by how they give types to what stands in a value.
use Rattle.std.proofs.Common.{◌≡◌, List, ◌++◌, refl, sym, ap, ◌∙◌}
use Rattle.asn_meaning.specs.Kinds.{Kind, NullKind, BooleanKind, IntegerKind, RealKind, BitStringKind, OctetStringKind, CharacterStringKind, TimeKind, EnumeratedKind, ObjectIdentifierKind, OpaqueKind, StructKind, ListKind, ChoiceKind, FieldKind, ReferenceKind, SelectionKind}
use Rattle.asn_meaning.specs.Meaning.{Meaning}
use Rattle.asn_meaning.specs.Members.{element_place}
use Rattle.asn_meaning.specs.Scopes.{Place}
use Rattle.asn_meaning.specs.Written.{Written}
use Rattle.asn_needs.specs.PartsOfValues.{bits_under, elements_under, free_parts, option_under, parts_under, struct_under}
use Rattle.asn_needs.specs.Sites.{Site}
use Rattle.asn_places_values.specs.declared.layouts.Parting.{Parting}
use Rattle.asn_places_values.specs.declared.layouts.Parting.TheVariants.{ByMember, ByElement, ByOption, ByBit, ByNothing}
use Rattle.asn_places_values.specs.inner.Layouts.{parting_of}

abbrev parts_by : Meaning → Site → Place → Written → Parting → List Site
parts_by M s head w ByMember = struct_under M s head w
parts_by M s head w ByElement = elements_under s (element_place head) w
parts_by M s head w ByOption = option_under s head w
parts_by M s head w ByBit = bits_under s w
parts_by M s head w ByNothing = free_parts s w

divided : (M : Meaning) (s : Site) (head : Place) (w : Written) (k : Kind) → parts_under M s head w k ≡ parts_by M s head w (parting_of k)
divided M s head w NullKind = refl
divided M s head w BooleanKind = refl
divided M s head w (IntegerKind numbers) = refl
divided M s head w RealKind = refl
divided M s head w (BitStringKind bits) = refl
divided M s head w OctetStringKind = refl
divided M s head w (CharacterStringKind ty) = refl
divided M s head w TimeKind = refl
divided M s head w (EnumeratedKind items) = refl
divided M s head w ObjectIdentifierKind = refl
divided M s head w OpaqueKind = refl
divided M s head w (StructKind x) = refl
divided M s head w (ListKind ty) = refl
divided M s head w (ChoiceKind options) = refl
divided M s head w (FieldKind x) = refl
divided M s head w (ReferenceKind x) = refl
divided M s head w (SelectionKind x) = refl

module _ (M : Meaning) (s : Site) (head : Place) (w : Written) (k : Kind) (p : Parting) (xs all : List Site) where
  by : parting_of k ≡ p → all ≡ xs ++ parts_by M s head w p → all ≡ xs ++ parts_under M s head w k
  by e is = is ∙ sym (ap (λ ys. xs ++ ys) (divided M s head w k ∙ ap (parts_by M s head w) e))

pub by_member : (M : Meaning) (s : Site) (head : Place) (w : Written) (k : Kind) (xs all : List Site) → parting_of k ≡ ByMember → all ≡ xs ++ struct_under M s head w → all ≡ xs ++ parts_under M s head w k
by_member M s head w k xs all e is = by M s head w k ByMember xs all e is

pub by_element : (M : Meaning) (s : Site) (head : Place) (w : Written) (k : Kind) (xs all : List Site) → parting_of k ≡ ByElement → all ≡ xs ++ elements_under s (element_place head) w →
    all ≡ xs ++ parts_under M s head w k
by_element M s head w k xs all e is = by M s head w k ByElement xs all e is

pub by_option : (M : Meaning) (s : Site) (head : Place) (w : Written) (k : Kind) (xs all : List Site) → parting_of k ≡ ByOption → all ≡ xs ++ option_under s head w → all ≡ xs ++ parts_under M s head w k
by_option M s head w k xs all e is = by M s head w k ByOption xs all e is

pub by_bit : (M : Meaning) (s : Site) (head : Place) (w : Written) (k : Kind) (xs all : List Site) → parting_of k ≡ ByBit → all ≡ xs ++ bits_under s w → all ≡ xs ++ parts_under M s head w k
by_bit M s head w k xs all e is = by M s head w k ByBit xs all e is

pub by_nothing : (M : Meaning) (s : Site) (head : Place) (w : Written) (k : Kind) (xs all : List Site) → parting_of k ≡ ByNothing → all ≡ xs ++ free_parts s w → all ≡ xs ++ parts_under M s head w k
by_nothing M s head w k xs all e is = by M s head w k ByNothing xs all e is
