-- The text of each setting reads back as the setting.
use Rattle.std.proofs.Common.{◌≡◌, ℕ, ◌<◌, ◌^◌, ◌++◌, Some, refl}
use Rattle.std.specs.Prelude.{codes}
use Rattle.std.specs.Fmt.{decimal}
use Rattle.asn_tree_settings.proofs.Numerals.{decimal_back}
use Rattle.asn_tree_settings.specs.declared.settings.YearSettings.TheVariants as year
use Rattle.asn_tree_settings.specs.declared.settings.TimeSettings.TheVariants as time
use Rattle.asn_tree_settings.specs.declared.settings.RecurrenceSettings.TheVariants as recurrence
use Rattle.asn_tree_settings.specs.Settings.{year_of, time_of, recurrence_of}
use Rattle.asn_tree_settings.specs.declared.settings.BasicSettings.{BasicSettings}
use Rattle.asn_tree_settings.specs.declared.settings.BasicSettings.TheVariants as basic
use Rattle.asn_tree_settings.specs.declared.settings.DateSettings.{DateSettings}
use Rattle.asn_tree_settings.specs.declared.settings.DateSettings.TheVariants as date
use Rattle.asn_tree_settings.specs.declared.settings.LocalOrUtcSettings.{LocalOrUtcSettings}
use Rattle.asn_tree_settings.specs.declared.settings.LocalOrUtcSettings.TheVariants as clock
use Rattle.asn_tree_settings.specs.declared.settings.IntervalTypeSettings.{IntervalTypeSettings}
use Rattle.asn_tree_settings.specs.declared.settings.IntervalTypeSettings.TheVariants as interval
use Rattle.asn_tree_settings.specs.declared.settings.StartEndPointSettings.{StartEndPointSettings}
use Rattle.asn_tree_settings.specs.declared.settings.StartEndPointSettings.TheVariants as point
use Rattle.asn_tree_settings.specs.declared.settings.MidnightSettings.{MidnightSettings}
use Rattle.asn_tree_settings.specs.declared.settings.MidnightSettings.TheVariants as midnight
use Rattle.asn_tree_settings.specs.Settings.{basic_text, basic_of, date_text, date_of, clock_text, clock_of, interval_text, interval_of, point_text, point_of, midnight_text, midnight_of}

pub basic_back : (setting : BasicSettings) → basic_of (basic_text setting) ≡ Some setting
basic_back basic.Date = refl
basic_back basic.Time = refl
basic_back basic.DateTime = refl
basic_back basic.Interval = refl
basic_back basic.RecInterval = refl

pub date_back : (setting : DateSettings) → date_of (date_text setting) ≡ Some setting
date_back date.Century = refl
date_back date.Year = refl
date_back date.YearMonth = refl
date_back date.YearMonthDay = refl
date_back date.YearDay = refl
date_back date.YearWeek = refl
date_back date.YearWeekDay = refl

pub clock_back : (setting : LocalOrUtcSettings) → clock_of (clock_text setting) ≡ Some setting
clock_back clock.Local = refl
clock_back clock.Utc = refl
clock_back clock.LocalAndDifference = refl

pub interval_back : (setting : IntervalTypeSettings) → interval_of (interval_text setting) ≡ Some setting
interval_back interval.StartAndEnd = refl
interval_back interval.Duration = refl
interval_back interval.StartAndDuration = refl
interval_back interval.DurationAndEnd = refl

pub point_back : (setting : StartEndPointSettings) → point_of (point_text setting) ≡ Some setting
point_back point.Date = refl
point_back point.Time = refl
point_back point.DateTime = refl

pub midnight_back : (setting : MidnightSettings) → midnight_of (midnight_text setting) ≡ Some setting
midnight_back midnight.StartOfDay = refl
midnight_back midnight.EndOfDay = refl

pub year_back : (n : ℕ) → n < 2 ^ 64 → year_of (codes "L" ++ decimal n) ≡ Some (year.Large n)
year_back n small = rw (decimal_back n small)

pub hour_back : (n : ℕ) → n < 2 ^ 64 → time_of (codes "HF" ++ decimal n) ≡ Some (time.HourDecimalFraction n)
hour_back n small = rw (decimal_back n small)

pub minute_back : (n : ℕ) → n < 2 ^ 64 → time_of (codes "HMF" ++ decimal n) ≡ Some (time.HourMinuteFraction n)
minute_back n small = rw (decimal_back n small)

pub second_back : (n : ℕ) → n < 2 ^ 64 → time_of (codes "HMSF" ++ decimal n) ≡ Some (time.HourMinuteSecondFraction n)
second_back n small = rw (decimal_back n small)

pub recurrence_back : (n : ℕ) → n < 2 ^ 64 → recurrence_of (codes "R" ++ decimal n) ≡ Some (recurrence.Recurrences n)
recurrence_back n small = rw (decimal_back n small)
