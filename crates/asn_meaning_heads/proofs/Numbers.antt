-- Numbers that decimal digits write.
use Rattle.std.proofs.Common.{◌≡◌, ◌≢◌, ℕ, ◌<◌, ◌^◌, List, [], ◌∷◌, Bool, true, false, Option, Some, None, Result, Ok, Err, refl, ap, if◌then◌else◌, arith, length, get_or}
use Rattle.std.specs.Prelude.{nat_lt, ℤ, pos}
use Rattle.std.specs.Int.{w128}
use Rattle.std.specs.Str.{all_ascii_digits}
use Rattle.std.specs.Str.Parse.{ParsesSigned, digits_value}
use Rattle.std.specs.Result.{OkIff, result_ok}
use Rattle.std.proofs.lemmas.Bool.Decides.{nat_tests}
use Rattle.std.proofs.lemmas.Str.Parse.{IsNumeralModel, numerals_by_value, tells_all_ascii_digits, parse_signed_plain}
use Rattle.asn_tree_settings.specs.Settings.{starts_with_digit}
use Rattle.asn_tree_notation.specs.Syntax.{is_number}

digits : IsNumeralModel (λ ds. all_ascii_digits ds ≡ true) (digits_value 10)
digits = numerals_by_value _ tells_all_ascii_digits

-- a text that begins with a digit begins with no sign, and is not empty
no_plus : (bs : List ℕ) → starts_with_digit bs ≡ true → get_or bs 0 0 ≢ 43
no_plus [] starts = cc
no_plus (b ∷ bs) starts = λ is. grind (arith, nat_tests)

no_minus : (bs : List ℕ) → starts_with_digit bs ≡ true → get_or bs 0 0 ≢ 45
no_minus [] starts = cc
no_minus (b ∷ bs) starts = λ is. grind (arith, nat_tests)

some : (bs : List ℕ) → starts_with_digit bs ≡ true → 0 < length bs
some [] starts = cc
some (b ∷ bs) starts = omega arith

small_is : (n : ℕ) → n < 2 ^ 127 → nat_lt n (2 ^ 127) ≡ true
small_is n small = grind (arith, nat_tests)

large_is : (n : ℕ) → (n < 2 ^ 127 → ⊥) → nat_lt n (2 ^ 127) ≡ false
large_is n large = go (nat_lt n (2 ^ 127)) refl
  where
    go : (b : Bool) → nat_lt n (2 ^ 127) ≡ b → nat_lt n (2 ^ 127) ≡ false
    go true is = absurd (large (grind (arith, nat_tests)))
    go false is = is

chosen : Bool → ℤ → Option ℤ
chosen b i = if b then Some i else None

-- `parse` reads just the numbers that fit, of texts that begin with a digit
pub parsed : {E : Type 0} (bs : List ℕ) (r : Result ℤ E) → ParsesSigned w128 10 bs r → starts_with_digit bs ≡ true →
    result_ok r ≡ (if is_number bs then Some (pos (digits_value 10 bs)) else None)
unfolding chosen
parsed bs r parses starts = go r (all_ascii_digits bs) refl (parse_signed_plain digits w128 bs r parses (no_plus bs starts) (no_minus bs starts))
  where
    go : {E : Type 0} (r : Result ℤ E) (b : Bool) → all_ascii_digits bs ≡ b → OkIff r ((all_ascii_digits bs ≡ true) × (0 < length bs) × (digits_value 10 bs < 2 ^ 127)) (pos (digits_value 10 bs)) →
        result_ok r ≡ chosen (is_number bs) (pos (digits_value 10 bs))
    go (Ok n) b is ok = rw (starts, ok.0.0, small_is (digits_value 10 bs) ok.0.2) (ap Some ok.1)
    go (Err e) false is fails = rw (starts, is) refl
    go (Err e) true is fails = rw (starts, is, large_is (digits_value 10 bs) (λ small. fails (is, some bs starts, small))) refl

pub no_number : (bs : List ℕ) → starts_with_digit bs ≡ false → (if is_number bs then Some (pos (digits_value 10 bs)) else None) ≡ None
no_number bs e = rw e refl
