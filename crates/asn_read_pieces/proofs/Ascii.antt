-- What tells a setting is of ASCII, and so a text that stays as it is.
use Rattle.std.proofs.Common.{◌≡◌, ℕ, List, [], ◌∷◌, Bool, true, false, Option, Some, None, refl, sym, subst, drop, length, arith}
use Rattle.std.specs.Prelude.{codes, nat_eq, nat_lt, ◌&&◌, if◌then◌else◌}
use Rattle.std.specs.Char.{is_ascii_digit}
use Rattle.std.specs.List.{list_all, starts_with}
use Rattle.std.specs.Option.{is_some, option_map, option_or}
use Rattle.std.specs.Str.{IsAscii, all_ascii_digits, bytes_eq}
use Rattle.std.specs.Str.Lossy.{utf8_lossy}
use Rattle.std.specs.Str.Parse.{digits_value}
use Rattle.std.proofs.lemmas.Bool.Decides.{Decides-eqb, Decides-ltb, nat_tests}
use Rattle.std.proofs.lemmas.Slice.Eq.{bytes_eq-Decides}
use Rattle.std.proofs.lemmas.Str.{IsUtf8-from_ascii, utf8_lossy-IsUtf8}
use Rattle.std.proofs.lemmas.Str.Ascii.{IsAscii-cons, IsAscii-nil}
use Rattle.asn_rules_guards.proofs.Booleans.{and_both}
use Rattle.asn_rules_guards.specs.Guards.{before, behind}
use Rattle.asn_tree_settings.specs.Settings.{among, basic_name, basic_of, basic_text, clock_name, clock_of, clock_text, date_name, date_of, date_text, fraction_of, interval_name, interval_of, interval_text, is_numeral, midnight_name, midnight_of, midnight_text, number_behind, number_of, numbered, pair_of, point_name, point_of, point_text, recurrence_name, recurrence_of, recurrence_text, starts_with_digit, time_name, time_of, time_text, within, year_name, year_of, year_text}
use Rattle.asn_tree_settings.specs.declared.settings.BasicSettings.TheVariants as basic
use Rattle.asn_tree_settings.specs.declared.settings.DateSettings.TheVariants as date
use Rattle.asn_tree_settings.specs.declared.settings.YearSettings.TheVariants as year
use Rattle.asn_tree_settings.specs.declared.settings.TimeSettings.TheVariants as time
use Rattle.asn_tree_settings.specs.declared.settings.LocalOrUtcSettings.TheVariants as clock
use Rattle.asn_tree_settings.specs.declared.settings.IntervalTypeSettings.TheVariants as interval
use Rattle.asn_tree_settings.specs.declared.settings.StartEndPointSettings.TheVariants as point
use Rattle.asn_tree_settings.specs.declared.settings.RecurrenceSettings.TheVariants as recurrence
use Rattle.asn_tree_settings.specs.declared.settings.MidnightSettings.TheVariants as midnight
use Rattle.asn_tree_settings.specs.declared.settings.PropertyAndSettingsPair.TheVariants as pair
use Rattle.asn_read_pieces.specs.Settings.{pair_by}

-- each byte is of ASCII
abbrev low : List ℕ → Bool
low bs = list_all (λ b. nat_lt b 128) bs

to_ascii : (bs : List ℕ) → low bs ≡ true → IsAscii bs
to_ascii [] e = IsAscii-nil
to_ascii (b ∷ bs) e =
    let parts = and_both (nat_lt b 128) (low bs) e in
    IsAscii-cons b bs ((Decides-ltb b 128).0 parts.0) (to_ascii bs parts.1)

stays : (bs : List ℕ) → low bs ≡ true → utf8_lossy bs ≡ bs
stays bs e = utf8_lossy-IsUtf8 bs (IsUtf8-from_ascii bs (to_ascii bs e))

-- bytes that are these are of ASCII where these are
low_same : (xs ys : List ℕ) → bytes_eq xs ys ≡ true → low ys ≡ true → low xs ≡ true
low_same xs ys e l = subst (λ zs. low zs ≡ true) (sym ((bytes_eq-Decides xs ys).0 e)) l

low_back : (xs ys : List ℕ) → bytes_eq xs ys ≡ true → low xs ≡ true → low ys ≡ true
low_back xs ys e l = subst (λ zs. low zs ≡ true) ((bytes_eq-Decides xs ys).0 e) l

among_low : {T : Type 0} (text : T → List ℕ) (xs : List T) (bytes : List ℕ) → list_all (λ x. low (text x)) xs ≡ true → is_some (among text xs bytes) ≡ true → low bytes ≡ true
among_low text [] bytes all e = absurd cc
among_low text (x ∷ xs) bytes all e =
    let parts = and_both (low (text x)) (list_all (λ x. low (text x)) xs) all in
    go (bytes_eq (text x) bytes) refl (among_low text xs bytes parts.1) parts.0 e
  where
    go : (t : Bool) → bytes_eq (text x) bytes ≡ t → (is_some (among text xs bytes) ≡ true → low bytes ≡ true) → low (text x) ≡ true → is_some (if t then Some x else among text xs bytes) ≡ true → low bytes ≡ true
    go true same again l e = low_back (text x) bytes same l
    go false same again l e = again e

-- what is made of what is there
mapped : {T U : Type 0} (f : T → U) (o : Option T) → is_some (option_map f o) ≡ true → is_some o ≡ true
mapped f None e = absurd cc
mapped f (Some x) e = refl

either : {T : Type 0} {G : Type 0} (o p : Option T) → (is_some o ≡ true → G) → (is_some p ≡ true → G) → is_some (option_or o p) ≡ true → G
either None p f g e = g e
either (Some x) p f g e = f refl

-- digits are of ASCII
digit_low : (b : ℕ) → is_ascii_digit b ≡ true → nat_lt b 128 ≡ true
digit_low b e = grind (arith, nat_tests)

both_true : (a b : Bool) → a ≡ true → b ≡ true → (a && b) ≡ true
both_true true b e f = f
both_true false b e f = absurd cc

digits_low : (bs : List ℕ) → all_ascii_digits bs ≡ true → low bs ≡ true
digits_low [] e = refl
digits_low (b ∷ bs) e =
    let parts = and_both (is_ascii_digit b) (all_ascii_digits bs) e in
    both_true (nat_lt b 128) (low bs) (digit_low b parts.0) (digits_low bs parts.1)

number_low : (bs : List ℕ) → is_some (number_of bs) ≡ true → low bs ≡ true
number_low bs e = go (is_numeral bs) refl e
  where
    go : (t : Bool) → is_numeral bs ≡ t → is_some (if t then within (digits_value 10 bs) else None) ≡ true → low bs ≡ true
    go true is e = digits_low bs (and_both (starts_with_digit bs) (all_ascii_digits bs) is).1
    go false is e = absurd cc

behind_low : (word bs : List ℕ) → low word ≡ true → is_some (number_behind word bs) ≡ true → low bs ≡ true
behind_low [] bs l e = number_low bs e
behind_low (w ∷ ws) [] l e = refl
behind_low (w ∷ ws) (b ∷ bs) l e =
    let parts = and_both (nat_lt w 128) (low ws) l in
    go (nat_eq w b) (Decides-eqb w b).0 (behind_low ws bs parts.1) parts.0 e
  where
    go : (t : Bool) → (t ≡ true → w ≡ b) → (is_some (number_behind ws bs) ≡ true → low bs ≡ true) → nat_lt w 128 ≡ true → is_some (if t && starts_with nat_eq bs ws then number_of (drop (length ws) bs) else None) ≡ true → (nat_lt b 128 && low bs) ≡ true
    go true same again l e = both_true (nat_lt b 128) (low bs) (subst (λ c. nat_lt c 128 ≡ true) (same refl) l) (again e)
    go false same again l e = absurd cc

numbered_low : {T : Type 0} (setting : ℕ → T) (word bs : List ℕ) → low word ≡ true → is_some (numbered setting word bs) ≡ true → low bs ≡ true
numbered_low setting word bs l e = behind_low word bs l (mapped setting (number_behind word bs) e)

basic_low : (bs : List ℕ) → is_some (basic_of bs) ≡ true → low bs ≡ true
basic_low bs e = among_low basic_text (basic.Date ∷ basic.Time ∷ basic.DateTime ∷ basic.Interval ∷ basic.RecInterval ∷ []) bs refl e

date_low : (bs : List ℕ) → is_some (date_of bs) ≡ true → low bs ≡ true
date_low bs e = among_low date_text (date.Century ∷ date.Year ∷ date.YearMonth ∷ date.YearMonthDay ∷ date.YearDay ∷ date.YearWeek ∷ date.YearWeekDay ∷ []) bs refl e

year_low : (bs : List ℕ) → is_some (year_of bs) ≡ true → low bs ≡ true
year_low bs e =
    either (among year_text (year.Basic ∷ year.Proleptic ∷ year.Negative ∷ []) bs) (numbered year.Large (codes "L") bs)
    (λ e. among_low year_text (year.Basic ∷ year.Proleptic ∷ year.Negative ∷ []) bs refl e)
    (λ e. numbered_low year.Large (codes "L") bs refl e) e

fraction_low : (bs : List ℕ) → is_some (fraction_of bs) ≡ true → low bs ≡ true
fraction_low bs e =
    let hour = numbered time.HourDecimalFraction (codes "HF") bs in
    let minute = numbered time.HourMinuteFraction (codes "HMF") bs in
    let second = numbered time.HourMinuteSecondFraction (codes "HMSF") bs in
    either hour (option_or minute second) (λ e. numbered_low time.HourDecimalFraction (codes "HF") bs refl e)
    (λ e. either minute second (λ e. numbered_low time.HourMinuteFraction (codes "HMF") bs refl e) (λ e. numbered_low time.HourMinuteSecondFraction (codes "HMSF") bs refl e) e) e

time_low : (bs : List ℕ) → is_some (time_of bs) ≡ true → low bs ≡ true
time_low bs e =
    either (among time_text (time.Hour ∷ time.HourMinute ∷ time.HourMinuteSecond ∷ []) bs) (fraction_of bs)
    (λ e. among_low time_text (time.Hour ∷ time.HourMinute ∷ time.HourMinuteSecond ∷ []) bs refl e) (fraction_low bs) e

clock_low : (bs : List ℕ) → is_some (clock_of bs) ≡ true → low bs ≡ true
clock_low bs e = among_low clock_text (clock.Local ∷ clock.Utc ∷ clock.LocalAndDifference ∷ []) bs refl e

interval_low : (bs : List ℕ) → is_some (interval_of bs) ≡ true → low bs ≡ true
interval_low bs e = among_low interval_text (interval.StartAndEnd ∷ interval.Duration ∷ interval.StartAndDuration ∷ interval.DurationAndEnd ∷ []) bs refl e

point_low : (bs : List ℕ) → is_some (point_of bs) ≡ true → low bs ≡ true
point_low bs e = among_low point_text (point.Date ∷ point.Time ∷ point.DateTime ∷ []) bs refl e

recurrence_low : (bs : List ℕ) → is_some (recurrence_of bs) ≡ true → low bs ≡ true
recurrence_low bs e =
    either (among recurrence_text (recurrence.Unlimited ∷ []) bs) (numbered recurrence.Recurrences (codes "R") bs)
    (λ e. among_low recurrence_text (recurrence.Unlimited ∷ []) bs refl e)
    (λ e. numbered_low recurrence.Recurrences (codes "R") bs refl e) e

midnight_low : (bs : List ℕ) → is_some (midnight_of bs) ≡ true → low bs ≡ true
midnight_low bs e = among_low midnight_text (midnight.StartOfDay ∷ midnight.EndOfDay ∷ []) bs refl e

-- one of two ways
chosen : {T : Type 0} {G : Type 0} (t : Bool) (o p : Option T) → (t ≡ true → is_some o ≡ true → G) → (is_some p ≡ true → G) → is_some (if t then o else p) ≡ true → G
chosen true o p f g e = f refl e
chosen false o p f g e = g e

-- A property's name and the text of its setting are of ASCII.
pair_low : (name text : List ℕ) → is_some (pair_of name text) ≡ true → (low name ≡ true) × (low text ≡ true)
pair_low name text e =
    chosen (bytes_eq name basic_name) _ _ (λ t s. (low_same name basic_name t refl, basic_low text (mapped pair.Basic (basic_of text) s)))
    (λ e. chosen (bytes_eq name date_name) _ _ (λ t s. (low_same name date_name t refl, date_low text (mapped pair.Date (date_of text) s)))
    (λ e. chosen (bytes_eq name year_name) _ _ (λ t s. (low_same name year_name t refl, year_low text (mapped pair.Year (year_of text) s)))
    (λ e. chosen (bytes_eq name time_name) _ _ (λ t s. (low_same name time_name t refl, time_low text (mapped pair.Time (time_of text) s)))
    (λ e. chosen (bytes_eq name clock_name) _ _ (λ t s. (low_same name clock_name t refl, clock_low text (mapped pair.LocalOrUtc (clock_of text) s)))
    (λ e. chosen (bytes_eq name interval_name) _ _ (λ t s. (low_same name interval_name t refl, interval_low text (mapped pair.IntervalType (interval_of text) s)))
    (λ e. chosen (bytes_eq name point_name) _ _ (λ t s. (low_same name point_name t refl, point_low text (mapped pair.StartEndPoint (point_of text) s)))
    (λ e. chosen (bytes_eq name recurrence_name) _ _ (λ t s. (low_same name recurrence_name t refl, recurrence_low text (mapped pair.Recurrence (recurrence_of text) s)))
    (λ e. chosen (bytes_eq name midnight_name) _ None (λ t s. (low_same name midnight_name t refl, midnight_low text (mapped pair.Midnight (midnight_of text) s)))
    (λ e. absurd cc) e) e) e) e) e) e) e) e) e

pub name_is_text : (bytes : List ℕ) → is_some (pair_by bytes) ≡ true → utf8_lossy (before 61 bytes) ≡ before 61 bytes
name_is_text bytes e = stays (before 61 bytes) (pair_low (before 61 bytes) (behind 61 bytes) e).0

pub setting_is_text : (bytes : List ℕ) → is_some (pair_by bytes) ≡ true → utf8_lossy (behind 61 bytes) ≡ behind 61 bytes
setting_is_text bytes e = stays (behind 61 bytes) (pair_low (before 61 bytes) (behind 61 bytes) e).1
