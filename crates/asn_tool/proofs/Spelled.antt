-- What `parse` reads of a word that begins with a digit above 0.
use Rattle.std.proofs.Common.{◌≡◌, ◌≢◌, ℕ, ◌<◌, ◌^◌, List, [], ◌∷◌, Bool, true, false, Option, Some, None, Result, Ok, Err, refl, ap, arith, length, get_or, leb-true}
use Rattle.std.specs.Prelude.{cond, nat_le}
use Rattle.std.specs.Str.{all_ascii_digits}
use Rattle.std.specs.Str.Parse.{ParsesUnsigned, digits_value}
use Rattle.std.specs.Result.{OkIff}
use Rattle.std.proofs.lemmas.Bool.Decides.{nat_tests}
use Rattle.std.proofs.lemmas.Str.Parse.{IsNumeralModel, numerals_by_value, tells_all_ascii_digits, parse_plain}
use Rattle.asn_tool.specs.Words.{starts_above_zero, at_most_greatest, spelled_depth}

digits : IsNumeralModel (λ ds. all_ascii_digits ds ≡ true) (digits_value 10)
digits = numerals_by_value _ tells_all_ascii_digits

-- such a word begins with no plus, and is not empty
no_plus : (bs : List ℕ) → starts_above_zero bs ≡ true → get_or bs 0 0 ≢ 43
no_plus [] starts = cc
no_plus (b ∷ bs) starts = λ is. grind (arith, nat_tests)

some : (bs : List ℕ) → starts_above_zero bs ≡ true → 0 < length bs
some [] starts = cc
some (b ∷ bs) starts = omega arith

abbrev of_parsed : {E : Type 0} → Result ℕ E → Option ℕ
of_parsed (Ok depth) = at_most_greatest depth
of_parsed (Err e) = None

-- a number above the greatest is none
too_great : (n : ℕ) → (n < 2 ^ 64 → ⊥) → None ≡ at_most_greatest n
too_great n large = go (nat_le n 2000) refl
  where
    go : (b : Bool) → nat_le n 2000 ≡ b → None ≡ cond b (Some n) None
    go true is = let l = leb-true n 2000 is in absurd (large (omega (arith, l)))
    go false is = refl

pub spelled : {E : Type 0} (bs : List ℕ) (r : Result ℕ E) → ParsesUnsigned 64 10 bs r → starts_above_zero bs ≡ true → of_parsed r ≡ spelled_depth bs
spelled bs r parses starts = go r (all_ascii_digits bs) refl (parse_plain digits 64 bs r parses (no_plus bs starts))
  where
    go : {E : Type 0} (r : Result ℕ E) (b : Bool) → all_ascii_digits bs ≡ b → OkIff r ((all_ascii_digits bs ≡ true) × (0 < length bs) × (digits_value 10 bs < 2 ^ 64)) (digits_value 10 bs) → of_parsed r ≡ spelled_depth bs
    go (Ok depth) b is ok = rw (starts, ok.0.0) (ap at_most_greatest ok.1)
    go (Err e) false is fails = rw (starts, is)
    go (Err e) true is fails = rw (starts, is) (too_great (digits_value 10 bs) (λ small. fails (is, some bs starts, small)))
