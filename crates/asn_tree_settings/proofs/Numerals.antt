-- Numbers behind words: what `parse` and `strip_prefix` answer, and that what is written reads back.
use Rattle.std.proofs.Common.{◌≡◌, ◌≢◌, ℕ, ◌<◌, ◌^◌, List, [], ◌∷◌, Bool, true, false, Some, None, Result, Ok, Err, refl, ap, sym, arith, length, get_or, drop}
use Rattle.std.specs.Prelude.{cond, nat_lt, nat_eq}
use Rattle.std.specs.Fmt.{decimal}
use Rattle.std.specs.List.{starts_with}
use Rattle.std.specs.Str.{IsCharBoundary, all_ascii_digits}
use Rattle.std.specs.Str.Parse.{ParsesUnsigned, digits_value}
use Rattle.std.specs.Str.Pattern.{FindsTextPrefix}
use Rattle.std.specs.Result.{OkIff, result_ok}
use Rattle.std.proofs.lemmas.Bool.Decides.{nat_tests}
use Rattle.std.proofs.lemmas.Fmt.{digits_decimal, digits_value-decimal, decimal_nonempty}
use Rattle.std.proofs.lemmas.Str.Parse.{IsNumeralModel, numerals_by_value, tells_all_ascii_digits, parse_plain}
use Rattle.std.proofs.lemmas.Str.Pattern.{starts_text}
use Rattle.asn_tree_settings.specs.Settings.{starts_with_digit, within, number_of, number_behind}

digits : IsNumeralModel (λ ds. all_ascii_digits ds ≡ true) (digits_value 10)
digits = numerals_by_value _ tells_all_ascii_digits

within_small : (n : ℕ) → n < 2 ^ 64 → within n ≡ Some n
within_small n small = let is : nat_lt n (2 ^ 64) ≡ true = grind (arith, nat_tests) in rw is

within_large : (n : ℕ) → (n < 2 ^ 64 → ⊥) → None ≡ within n
within_large n large = go (nat_lt n (2 ^ 64)) refl
  where
    go : (b : Bool) → nat_lt n (2 ^ 64) ≡ b → None ≡ cond b (Some n) None
    go true is = absurd (large (grind (arith, nat_tests)))
    go false is = refl

-- digits begin with a digit
digit_first : (bs : List ℕ) → all_ascii_digits bs ≡ true → 0 < length bs → starts_with_digit bs ≡ true
digit_first [] all some = absurd (omega arith)
digit_first (b ∷ bs) all some = grind (arith, nat_tests)

-- the decimal digits of a number read as the number
pub decimal_back : (n : ℕ) → n < 2 ^ 64 → number_of (decimal n) ≡ Some n
decimal_back n small =
    let all : all_ascii_digits (decimal n) ≡ true = digits_decimal digits n small in
    let first : starts_with_digit (decimal n) ≡ true = digit_first (decimal n) all (decimal_nonempty n small) in
    let worth : digits_value 10 (decimal n) ≡ n = digits_value-decimal digits n small in
    rw (first, all, worth, within_small n small)

-- a text that begins with a digit begins with no plus, and is not empty
no_plus : (bs : List ℕ) → starts_with_digit bs ≡ true → get_or bs 0 0 ≢ 43
no_plus [] starts = cc
no_plus (b ∷ bs) starts = λ is. grind (arith, nat_tests)

some : (bs : List ℕ) → starts_with_digit bs ≡ true → 0 < length bs
some [] starts = cc
some (b ∷ bs) starts = omega arith

pub parsed : {E : Type 0} (bs : List ℕ) (r : Result ℕ E) → ParsesUnsigned 64 10 bs r → starts_with_digit bs ≡ true → result_ok r ≡ number_of bs
parsed bs r parses starts = go r (all_ascii_digits bs) refl (parse_plain digits 64 bs r parses (no_plus bs starts))
  where
    go : {E : Type 0} (r : Result ℕ E) (b : Bool) → all_ascii_digits bs ≡ b → OkIff r ((all_ascii_digits bs ≡ true) × (0 < length bs) × (digits_value 10 bs < 2 ^ 64)) (digits_value 10 bs) → result_ok r ≡ number_of bs
    go (Ok n) b is ok = rw (starts, ok.0.0, within_small (digits_value 10 bs) ok.0.2) (ap Some ok.1)
    go (Err e) false is fails = rw (starts, is)
    go (Err e) true is fails = rw (starts, is) (within_large (digits_value 10 bs) (λ small. fails (is, some bs starts, small)))

-- the word does not begin the text
pub other_word : (word text : List ℕ) → FindsTextPrefix word text None → None ≡ number_behind word text
other_word word text lacks =
    let is : false ≡ starts_with nat_eq text word = starts_text false word text lacks in
    rw (sym is)

-- the word begins the text, and k bytes are passed
pub word_first : (word text : List ℕ) (k : ℕ) → FindsTextPrefix word text (Some k) → number_of (drop k text) ≡ number_behind word text
word_first word text k found =
    let boundary : IsCharBoundary text k = rw found.0 found.2 in
    let is : true ≡ starts_with nat_eq text word = starts_text true word text (k, found, boundary) in
    rw (sym is, found.0)
