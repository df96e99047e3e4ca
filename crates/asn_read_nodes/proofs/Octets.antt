-- The four octets of a character are there, where they tell one.
use Rattle.std.proofs.Common.{◌≡◌, ℕ, List, true, Option, Some, None, refl, subst}
use Rattle.std.specs.Option.{is_some}
use Rattle.asn_rules_guards.specs.Guards.{behind, four_octets, is_scalar, is_scalar_of, octet, with_octet}

all_there : (a b c d : Option ℕ) → is_scalar_of (with_octet (with_octet (with_octet a b) c) d) ≡ true → (is_some a ≡ true) × (is_some b ≡ true) × (is_some c ≡ true) × (is_some d ≡ true)
all_there None b c d e = absurd cc
all_there (Some a) None c d e = absurd cc
all_there (Some a) (Some b) None d e = absurd cc
all_there (Some a) (Some b) (Some c) None e = absurd cc
all_there (Some a) (Some b) (Some c) (Some d) e = (refl, refl, refl, refl)

there : (bs : List ℕ) → is_scalar_of (four_octets bs) ≡ true → (is_some (octet 44 bs) ≡ true) × (is_some (octet 44 (behind 44 bs)) ≡ true) × (is_some (octet 44 (behind 44 (behind 44 bs))) ≡ true) × (is_some (octet 125 (behind 44 (behind 44 (behind 44 bs)))) ≡ true)
there bs e = all_there (octet 44 bs) (octet 44 (behind 44 bs)) (octet 44 (behind 44 (behind 44 bs))) (octet 125 (behind 44 (behind 44 (behind 44 bs)))) e

pub first_octet : (bs : List ℕ) → is_scalar_of (four_octets bs) ≡ true → is_some (octet 44 bs) ≡ true
first_octet bs e = (there bs e).0

pub second_octet : (bs : List ℕ) → is_scalar_of (four_octets bs) ≡ true → is_some (octet 44 (behind 44 bs)) ≡ true
second_octet bs e = (there bs e).1

pub third_octet : (bs : List ℕ) → is_scalar_of (four_octets bs) ≡ true → is_some (octet 44 (behind 44 (behind 44 bs))) ≡ true
third_octet bs e = (there bs e).2

pub fourth_octet : (bs : List ℕ) → is_scalar_of (four_octets bs) ≡ true → is_some (octet 125 (behind 44 (behind 44 (behind 44 bs)))) ≡ true
fourth_octet bs e = (there bs e).3

pub octets_are : (bs : List ℕ) (n : ℕ) → is_scalar_of (four_octets bs) ≡ true → four_octets bs ≡ Some n → is_scalar n ≡ true
octets_are bs n e same = subst (λ o. is_scalar_of o ≡ true) same e
