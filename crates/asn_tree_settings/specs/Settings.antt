-- The settings of the properties of the time types and their texts (X.680 38 and 51.10).
use Rattle.std.specs.Prelude.{ℕ, ◌^◌, List, [], ◌∷◌, ◌++◌, length, drop, Option, Some, None, Bool, false, ◌&&◌, nat_eq, nat_le, nat_lt, if◌then◌else◌, codes}
use Rattle.std.specs.Fmt.{decimal}
use Rattle.std.specs.List.{starts_with}
use Rattle.std.specs.Option.{option_map, option_or}
use Rattle.std.specs.Str.{all_ascii_digits, bytes_eq}
use Rattle.std.specs.Str.Parse.{digits_value}
use Rattle.asn_tree_settings.specs.declared.settings.BasicSettings.{BasicSettings}
use Rattle.asn_tree_settings.specs.declared.settings.BasicSettings.TheVariants as basic
use Rattle.asn_tree_settings.specs.declared.settings.DateSettings.{DateSettings}
use Rattle.asn_tree_settings.specs.declared.settings.DateSettings.TheVariants as date
use Rattle.asn_tree_settings.specs.declared.settings.YearSettings.{YearSettings}
use Rattle.asn_tree_settings.specs.declared.settings.YearSettings.TheVariants as year
use Rattle.asn_tree_settings.specs.declared.settings.TimeSettings.{TimeSettings}
use Rattle.asn_tree_settings.specs.declared.settings.TimeSettings.TheVariants as time
use Rattle.asn_tree_settings.specs.declared.settings.LocalOrUtcSettings.{LocalOrUtcSettings}
use Rattle.asn_tree_settings.specs.declared.settings.LocalOrUtcSettings.TheVariants as clock
use Rattle.asn_tree_settings.specs.declared.settings.IntervalTypeSettings.{IntervalTypeSettings}
use Rattle.asn_tree_settings.specs.declared.settings.IntervalTypeSettings.TheVariants as interval
use Rattle.asn_tree_settings.specs.declared.settings.StartEndPointSettings.{StartEndPointSettings}
use Rattle.asn_tree_settings.specs.declared.settings.StartEndPointSettings.TheVariants as point
use Rattle.asn_tree_settings.specs.declared.settings.RecurrenceSettings.{RecurrenceSettings}
use Rattle.asn_tree_settings.specs.declared.settings.RecurrenceSettings.TheVariants as recurrence
use Rattle.asn_tree_settings.specs.declared.settings.MidnightSettings.{MidnightSettings}
use Rattle.asn_tree_settings.specs.declared.settings.MidnightSettings.TheVariants as midnight
use Rattle.asn_tree_settings.specs.declared.settings.PropertyAndSettingsPair.{PropertyAndSettingsPair}
use Rattle.asn_tree_settings.specs.declared.settings.PropertyAndSettingsPair.TheVariants as pair

-- the first of these settings that has the text
abbrev pub among : {T : Type 0} → (T → List ℕ) → List T → List ℕ → Option T
among text [] bytes = None
among text (x ∷ xs) bytes = if bytes_eq (text x) bytes then Some x else among text xs bytes

-- the first byte is one of the digits 0 to 9
abbrev pub starts_with_digit : List ℕ → Bool
starts_with_digit [] = false
starts_with_digit (byte ∷ bytes) = nat_le 48 byte && nat_le byte 57

-- digits and nothing else, at least one
abbrev pub is_numeral : List ℕ → Bool
is_numeral bytes = starts_with_digit bytes && all_ascii_digits bytes

-- a number that is below 2^64
abbrev pub within : ℕ → Option ℕ
within n = if nat_lt n (2 ^ 64) then Some n else None

-- the number that decimal digits write, where it is below 2^64; leading zeros pass
abbrev pub number_of : List ℕ → Option ℕ
number_of bytes = if is_numeral bytes then within (digits_value 10 bytes) else None

-- the number that stands behind the word
abbrev pub number_behind : List ℕ → List ℕ → Option ℕ
number_behind word bytes = if starts_with nat_eq bytes word then number_of (drop (length word) bytes) else None

-- the setting of a word with a number behind it
abbrev pub numbered : {T : Type 0} → (ℕ → T) → List ℕ → List ℕ → Option T
numbered setting word bytes = option_map setting (number_behind word bytes)

-- Basic: what kind of moment or span the values are
abbrev pub basic_name : List ℕ
basic_name = codes "Basic"

abbrev pub basic_text : BasicSettings → List ℕ
basic_text basic.Date = codes "Date"
basic_text basic.Time = codes "Time"
basic_text basic.DateTime = codes "Date-Time"
basic_text basic.Interval = codes "Interval"
basic_text basic.RecInterval = codes "Rec-Interval"

abbrev pub basic_of : List ℕ → Option BasicSettings
basic_of bytes = among basic_text (basic.Date ∷ basic.Time ∷ basic.DateTime ∷ basic.Interval ∷ basic.RecInterval ∷ []) bytes

-- Date: the parts that tell a date
abbrev pub date_name : List ℕ
date_name = codes "Date"

abbrev pub date_text : DateSettings → List ℕ
date_text date.Century = codes "C"
date_text date.Year = codes "Y"
date_text date.YearMonth = codes "YM"
date_text date.YearMonthDay = codes "YMD"
date_text date.YearDay = codes "YD"
date_text date.YearWeek = codes "YW"
date_text date.YearWeekDay = codes "YWD"

abbrev pub date_of : List ℕ → Option DateSettings
date_of bytes = among date_text (date.Century ∷ date.Year ∷ date.YearMonth ∷ date.YearMonthDay ∷ date.YearDay ∷ date.YearWeek ∷ date.YearWeekDay ∷ []) bytes

-- Year: which years a date may have
abbrev pub year_name : List ℕ
year_name = codes "Year"

abbrev pub year_text : YearSettings → List ℕ
year_text year.Basic = codes "Basic"
year_text year.Proleptic = codes "Proleptic"
year_text year.Negative = codes "Negative"
year_text (year.Large n) = codes "L" ++ decimal n

abbrev pub year_of : List ℕ → Option YearSettings
year_of bytes = option_or (among year_text (year.Basic ∷ year.Proleptic ∷ year.Negative ∷ []) bytes) (numbered year.Large (codes "L") bytes)

-- Time: the parts that tell a time of day
abbrev pub time_name : List ℕ
time_name = codes "Time"

abbrev pub time_text : TimeSettings → List ℕ
time_text time.Hour = codes "H"
time_text time.HourMinute = codes "HM"
time_text time.HourMinuteSecond = codes "HMS"
time_text (time.HourDecimalFraction n) = codes "HF" ++ decimal n
time_text (time.HourMinuteFraction n) = codes "HMF" ++ decimal n
time_text (time.HourMinuteSecondFraction n) = codes "HMSF" ++ decimal n

-- a time of day with a fraction; no text is of two of these, since a digit stands behind the word
abbrev pub fraction_of : List ℕ → Option TimeSettings
fraction_of bytes =
    option_or (numbered time.HourDecimalFraction (codes "HF") bytes)
    (option_or (numbered time.HourMinuteFraction (codes "HMF") bytes)
    (numbered time.HourMinuteSecondFraction (codes "HMSF") bytes))

abbrev pub time_of : List ℕ → Option TimeSettings
time_of bytes = option_or (among time_text (time.Hour ∷ time.HourMinute ∷ time.HourMinuteSecond ∷ []) bytes) (fraction_of bytes)

-- Local-or-UTC: which clock a time of day is of
abbrev pub clock_name : List ℕ
clock_name = codes "Local-or-UTC"

abbrev pub clock_text : LocalOrUtcSettings → List ℕ
clock_text clock.Local = codes "L"
clock_text clock.Utc = codes "Z"
clock_text clock.LocalAndDifference = codes "LD"

abbrev pub clock_of : List ℕ → Option LocalOrUtcSettings
clock_of bytes = among clock_text (clock.Local ∷ clock.Utc ∷ clock.LocalAndDifference ∷ []) bytes

-- Interval-type: the parts that tell an interval
abbrev pub interval_name : List ℕ
interval_name = codes "Interval-type"

abbrev pub interval_text : IntervalTypeSettings → List ℕ
interval_text interval.StartAndEnd = codes "SE"
interval_text interval.Duration = codes "D"
interval_text interval.StartAndDuration = codes "SD"
interval_text interval.DurationAndEnd = codes "DE"

abbrev pub interval_of : List ℕ → Option IntervalTypeSettings
interval_of bytes = among interval_text (interval.StartAndEnd ∷ interval.Duration ∷ interval.StartAndDuration ∷ interval.DurationAndEnd ∷ []) bytes

-- SE-point: what the ends of an interval are
abbrev pub point_name : List ℕ
point_name = codes "SE-point"

abbrev pub point_text : StartEndPointSettings → List ℕ
point_text point.Date = codes "Date"
point_text point.Time = codes "Time"
point_text point.DateTime = codes "Date-Time"

abbrev pub point_of : List ℕ → Option StartEndPointSettings
point_of bytes = among point_text (point.Date ∷ point.Time ∷ point.DateTime ∷ []) bytes

-- Recurrence: how often an interval recurs
abbrev pub recurrence_name : List ℕ
recurrence_name = codes "Recurrence"

abbrev pub recurrence_text : RecurrenceSettings → List ℕ
recurrence_text recurrence.Unlimited = codes "Unlimited"
recurrence_text (recurrence.Recurrences n) = codes "R" ++ decimal n

abbrev pub recurrence_of : List ℕ → Option RecurrenceSettings
recurrence_of bytes = option_or (among recurrence_text (recurrence.Unlimited ∷ []) bytes) (numbered recurrence.Recurrences (codes "R") bytes)

-- Midnight: which end of a day midnight is
abbrev pub midnight_name : List ℕ
midnight_name = codes "Midnight"

abbrev pub midnight_text : MidnightSettings → List ℕ
midnight_text midnight.StartOfDay = codes "Start"
midnight_text midnight.EndOfDay = codes "End"

abbrev pub midnight_of : List ℕ → Option MidnightSettings
midnight_of bytes = among midnight_text (midnight.StartOfDay ∷ midnight.EndOfDay ∷ []) bytes

-- the setting that a property's name and a text tell
abbrev pub pair_of : List ℕ → List ℕ → Option PropertyAndSettingsPair
pair_of name text =
    if bytes_eq name basic_name then option_map pair.Basic (basic_of text) else
    if bytes_eq name date_name then option_map pair.Date (date_of text) else
    if bytes_eq name year_name then option_map pair.Year (year_of text) else
    if bytes_eq name time_name then option_map pair.Time (time_of text) else
    if bytes_eq name clock_name then option_map pair.LocalOrUtc (clock_of text) else
    if bytes_eq name interval_name then option_map pair.IntervalType (interval_of text) else
    if bytes_eq name point_name then option_map pair.StartEndPoint (point_of text) else
    if bytes_eq name recurrence_name then option_map pair.Recurrence (recurrence_of text) else
    if bytes_eq name midnight_name then option_map pair.Midnight (midnight_of text) else
    None

-- the name of the property that a pair is of
abbrev pub property_of : PropertyAndSettingsPair → List ℕ
property_of (pair.Basic setting) = basic_name
property_of (pair.Date setting) = date_name
property_of (pair.Year setting) = year_name
property_of (pair.Time setting) = time_name
property_of (pair.LocalOrUtc setting) = clock_name
property_of (pair.IntervalType setting) = interval_name
property_of (pair.StartEndPoint setting) = point_name
property_of (pair.Recurrence setting) = recurrence_name
property_of (pair.Midnight setting) = midnight_name
