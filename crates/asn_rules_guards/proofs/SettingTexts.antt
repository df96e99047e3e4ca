-- The texts of settings, as the code compares them.
use Rattle.std.proofs.Common.{◌≡◌, ℕ, ◌+◌, ◌*◌, ◌-◌, ◌^◌, ◌<◌, ◌≤◌, List, [], ◌∷◌, Bool, true, false, Option, Some, None, refl, sym, ap, ◌∙◌, arith, length, drop, map}
use Rattle.std.specs.Prelude.{nat_eq, nat_lt, nat_le, ◌&&◌, ◌||◌, not, if◌then◌else◌, fold, codes}
use Rattle.std.specs.Char.{digit_value, is_ascii_digit}
use Rattle.std.specs.Cmp.Lexicographic.{pointwise}
use Rattle.std.specs.List.{list_all, list_any, starts_with}
use Rattle.std.specs.Option.{is_some, option_map, option_or}
use Rattle.std.specs.Str.{bytes_eq, all_ascii_digits}
use Rattle.std.specs.Str.Parse.{digits_value_after}
use Rattle.std.proofs.lemmas.Bool.Decides.{nat_tests}
use Rattle.std.proofs.lemmas.Cmp.{nat_list_eq_equiv}
use Rattle.std.proofs.lemmas.Str.{digit_value_digit}
use Rattle.asn_tree_settings.specs.Settings.{among, starts_with_digit, within, number_of, number_behind, numbered}
use Rattle.asn_tree_settings.specs.Settings.{basic_text, basic_of, year_text, year_of, time_text, fraction_of, time_of, recurrence_text, recurrence_of}
use Rattle.asn_tree_settings.specs.declared.settings.BasicSettings.TheVariants as basic
use Rattle.asn_tree_settings.specs.declared.settings.YearSettings.TheVariants as year
use Rattle.asn_tree_settings.specs.declared.settings.TimeSettings.TheVariants as time
use Rattle.asn_tree_settings.specs.declared.settings.RecurrenceSettings.TheVariants as recurrence
use Rattle.asn_rules_guards.proofs.Booleans.{and_both}
use Rattle.asn_rules_guards.specs.Lexical.{is_digit}
use Rattle.asn_rules_guards.specs.Guards.{is_empty, are_digits, decimal, natural}
use Rattle.asn_rules_guards.specs.inner.Sizes.{behind_word, is_numeral}

-- no word stands where nothing does
pub no_word : (word : List ℕ) → is_empty word ≡ false → behind_word word [] ≡ None
no_word [] e = absurd cc
no_word (w ∷ ws) e = refl

-- One of the settings has the text where the text is that of one of them.
pub text_told : {T : Type 0} (text : T → List ℕ) (xs : List T) (bytes : List ℕ) → is_some (among text xs bytes) ≡ list_any (λ w. pointwise nat_eq bytes w) (map text xs)
text_told text [] bytes = refl
text_told text (x ∷ xs) bytes = go (bytes_eq (text x) bytes) refl (text_told text xs bytes)
  where
    go : (b : Bool) → bytes_eq (text x) bytes ≡ b → is_some (among text xs bytes) ≡ list_any (λ w. pointwise nat_eq bytes w) (map text xs) → is_some (if b then Some x else among text xs bytes) ≡ (pointwise nat_eq bytes (text x) || list_any (λ w. pointwise nat_eq bytes w) (map text xs))
    go true e further = let same : pointwise nat_eq bytes (text x) ≡ true = nat_list_eq_equiv.symm bytes (text x) ∙ e in ap (λ t. t || list_any (λ w. pointwise nat_eq bytes w) (map text xs)) (sym same)
    go false e further = let same : pointwise nat_eq bytes (text x) ≡ false = nat_list_eq_equiv.symm bytes (text x) ∙ e in further ∙ ap (λ t. t || list_any (λ w. pointwise nat_eq bytes w) (map text xs)) (sym same)

-- what a test has told
pub tested : {result test told : Bool} → result ≡ test → result ≡ told → test ≡ told
tested same is = sym same ∙ is

pub either_told : {T : Type 0} (first second : Option T) → is_some (option_or first second) ≡ (is_some first || is_some second)
either_told None second = refl
either_told (Some x) second = refl

pub mapped_told : {T U : Type 0} (f : T → U) (o : Option T) → is_some (option_map f o) ≡ is_some o
mapped_told f None = refl
mapped_told f (Some x) = refl

all_digits : (bs : List ℕ) → all_ascii_digits bs ≡ list_all is_digit bs
all_digits [] = refl
all_digits (b ∷ bs) = ap (λ rest. is_ascii_digit b && rest) (all_digits bs)

-- bytes that are digits begin with one
begins_so : (bs : List ℕ) → (starts_with_digit bs && all_ascii_digits bs) ≡ are_digits bs
begins_so [] = refl
begins_so (b ∷ bs) = go (is_digit b) refl (all_digits bs)
  where
    go : (t : Bool) → is_digit b ≡ t → all_ascii_digits bs ≡ list_all is_digit bs → (is_digit b && (is_digit b && all_ascii_digits bs)) ≡ (is_digit b && list_all is_digit bs)
    go true e all = rw e all
    go false e all = rw e

less : (d c : ℕ) → d + 48 ≡ c → d ≡ c - 48
less d c e = omega arith

value : (b : ℕ) → is_digit b ≡ true → digit_value b ≡ b - 48
value b e =
    let low : 48 ≤ b = grind (arith, nat_tests) in
    let high : b ≤ 57 = grind (arith, nat_tests) in
    less (digit_value b) b (digit_value_digit b (low, high))

worth : (n : ℕ) (bs : List ℕ) → list_all is_digit bs ≡ true → digits_value_after 10 n bs ≡ fold (λ m b. m * 10 + (b - 48)) n bs
worth n [] all = refl
worth n (b ∷ bs) all =
    let parts = and_both (is_digit b) (list_all is_digit bs) all in
    ap (λ d. digits_value_after 10 (n * 10 + d) bs) (value b parts.0) ∙ worth (n * 10 + (b - 48)) bs parts.1

-- The number that is written is below 2^64 alike.
same_number : (bs : List ℕ) → is_some (number_of bs) ≡ is_some (natural 64 bs)
same_number bs = ap (λ t. is_some (if t then within (digits_value_after 10 0 bs) else None)) (begins_so bs) ∙ go (are_digits bs) refl
  where
    go : (a : Bool) → are_digits bs ≡ a → is_some (if a then within (digits_value_after 10 0 bs) else None) ≡ is_some (if a && nat_lt (decimal bs) (2 ^ 64) then Some (decimal bs) else None)
    go true e = ap (λ n. is_some (within n)) (worth 0 bs (and_both (not (is_empty bs)) (list_all is_digit bs) e).1)
    go false e = refl

-- A number stands behind a word alike.
pub number_told : (word bs : List ℕ) → is_some (number_behind word bs) ≡ is_numeral (behind_word word bs)
number_told [] bs = same_number bs
number_told (w ∷ ws) [] = refl
number_told (w ∷ ws) (b ∷ bs) = go (nat_eq w b) (number_told ws bs)
  where
    go : (t : Bool) → is_some (number_behind ws bs) ≡ is_numeral (behind_word ws bs) → is_some (if t && starts_with nat_eq bs ws then number_of (drop (length ws) bs) else None) ≡ is_numeral (if t then behind_word ws bs else None)
    go true e = e
    go false e = refl

-- one of the words stands there alone, or one of them with a number behind it
abbrev pub is_one : List (List ℕ) → List ℕ → Bool
is_one words bs = list_any (λ w. pointwise nat_eq bs w) words

abbrev pub is_one_with_number : List (List ℕ) → List ℕ → Bool
is_one_with_number words bs = list_any (λ w. is_some (number_behind w bs)) words

pub basic_told : (bs : List ℕ) → is_some (basic_of bs) ≡ is_one (codes "Date" ∷ codes "Time" ∷ codes "Date-Time" ∷ codes "Interval" ∷ codes "Rec-Interval" ∷ []) bs
basic_told bs = text_told basic_text (basic.Date ∷ basic.Time ∷ basic.DateTime ∷ basic.Interval ∷ basic.RecInterval ∷ []) bs

-- a word alone, or one with a number behind it
both_told : {T : Type 0} (text : T → List ℕ) (xs : List T) (bs : List ℕ) (behind : Option T) (tells : Bool) → is_some behind ≡ tells → is_some (option_or (among text xs bs) behind) ≡ (is_one (map text xs) bs || tells)
both_told text xs bs behind tells e =
    either_told (among text xs bs) behind
    ∙ ap (λ t. t || is_some behind) (text_told text xs bs)
    ∙ ap (λ t. is_one (map text xs) bs || t) e

last : (t : Bool) → t ≡ (t || false)
last true = refl
last false = refl

one_numbered : {T : Type 0} (setting : ℕ → T) (word bs : List ℕ) → is_some (numbered setting word bs) ≡ is_one_with_number (word ∷ []) bs
one_numbered setting word bs = mapped_told setting (number_behind word bs) ∙ last (is_some (number_behind word bs))

pub year_told : (bs : List ℕ) → is_some (year_of bs) ≡ (is_one (codes "Basic" ∷ codes "Proleptic" ∷ codes "Negative" ∷ []) bs || is_one_with_number (codes "L" ∷ []) bs)
year_told bs = both_told year_text (year.Basic ∷ year.Proleptic ∷ year.Negative ∷ []) bs (numbered year.Large (codes "L") bs) _ (one_numbered year.Large (codes "L") bs)

pub recurrence_told : (bs : List ℕ) → is_some (recurrence_of bs) ≡ (is_one (codes "Unlimited" ∷ []) bs || is_one_with_number (codes "R" ∷ []) bs)
recurrence_told bs = both_told recurrence_text (recurrence.Unlimited ∷ []) bs (numbered recurrence.Recurrences (codes "R") bs) _ (one_numbered recurrence.Recurrences (codes "R") bs)

fraction_told : (bs : List ℕ) → is_some (fraction_of bs) ≡ is_one_with_number (codes "HF" ∷ codes "HMF" ∷ codes "HMSF" ∷ []) bs
fraction_told bs =
    let hour = numbered time.HourDecimalFraction (codes "HF") bs in
    let minute = numbered time.HourMinuteFraction (codes "HMF") bs in
    let second = numbered time.HourMinuteSecondFraction (codes "HMSF") bs in
    either_told hour (option_or minute second)
    ∙ ap (λ t. is_some hour || t) (either_told minute second ∙ ap (λ t. is_some minute || t) (one_numbered time.HourMinuteSecondFraction (codes "HMSF") bs))
    ∙ ap (λ t. t || (is_some minute || is_one_with_number (codes "HMSF" ∷ []) bs)) (mapped_told time.HourDecimalFraction (number_behind (codes "HF") bs))
    ∙ ap (λ t. is_some (number_behind (codes "HF") bs) || (t || is_one_with_number (codes "HMSF" ∷ []) bs)) (mapped_told time.HourMinuteFraction (number_behind (codes "HMF") bs))

pub time_told : (bs : List ℕ) → is_some (time_of bs) ≡ (is_one (codes "H" ∷ codes "HM" ∷ codes "HMS" ∷ []) bs || is_one_with_number (codes "HF" ∷ codes "HMF" ∷ codes "HMSF" ∷ []) bs)
time_told bs = both_told time_text (time.Hour ∷ time.HourMinute ∷ time.HourMinuteSecond ∷ []) bs (fraction_of bs) _ (fraction_told bs)
