use Rattle.std.proofs.Common.{sym, ◌∙◌, ap}
use Rattle.std.specs.Option.{is_some}
use Rattle.asn_tree_settings.specs.Settings.{basic_of, date_of, year_of, time_of, recurrence_of, midnight_of}
use Rattle.asn_tree_settings.specs.declared.settings.PropertyAndSettingsPair.TheVariants as pair
use Rattle.asn_rules_guards.specs.Guards.{bare, behind}
use Rattle.asn_rules_guards.proofs.SettingTexts.{mapped_told, tested}
use Rattle.asn_rules_guards.proofs.setting_pairs.is_setting.Goals as goal

pub returns-then-is_property : goal.returns-then-is_property
returns-then-is_property c =
    rw (tested c.is_property.ensures c.if-is_property.true) (c.is_basic.ensures ∙ ap (λ bs. is_some (basic_of bs)) c.behind_first-text.ensures ∙ sym (mapped_told pair.Basic (basic_of (behind 61 (bare c.args.taken.now)))))

pub returns-then-is_property-2 : goal.returns-then-is_property-2
returns-then-is_property-2 c =
    rw (tested c.is_property.ensures c.if-is_property.false, tested c.is_property-else-is_property.ensures c.if-is_property-2.true) (c.is_date.ensures ∙ ap (λ bs. is_some (date_of bs)) c.behind_first-text.ensures ∙ sym (mapped_told pair.Date (date_of (behind 61 (bare c.args.taken.now)))))

pub returns-then-is_property-3 : goal.returns-then-is_property-3
returns-then-is_property-3 c =
    rw (tested c.is_property.ensures c.if-is_property.false, tested c.is_property-else-is_property.ensures c.if-is_property-2.false, tested c.is_property-else-is_property-2.ensures c.if-is_property-3.true) (c.is_year.ensures ∙ ap (λ bs. is_some (year_of bs)) c.behind_first-text.ensures ∙ sym (mapped_told pair.Year (year_of (behind 61 (bare c.args.taken.now)))))

pub returns-then-is_property-4 : goal.returns-then-is_property-4
returns-then-is_property-4 c =
    rw (tested c.is_property.ensures c.if-is_property.false, tested c.is_property-else-is_property.ensures c.if-is_property-2.false, tested c.is_property-else-is_property-2.ensures c.if-is_property-3.false, tested c.is_property-else-is_property-3.ensures c.if-is_property-4.true) (c.is_time_of_day.ensures ∙ ap (λ bs. is_some (time_of bs)) c.behind_first-text.ensures ∙ sym (mapped_told pair.Time (time_of (behind 61 (bare c.args.taken.now)))))

pub returns-then-is_property-8 : goal.returns-then-is_property-8
returns-then-is_property-8 c =
    rw (tested c.is_property.ensures c.if-is_property.false, tested c.is_property-else-is_property.ensures c.if-is_property-2.false, tested c.is_property-else-is_property-2.ensures c.if-is_property-3.false, tested c.is_property-else-is_property-3.ensures c.if-is_property-4.false, tested c.is_property-else-is_property-4.ensures c.if-is_property-5.false, tested c.is_property-else-is_property-5.ensures c.if-is_property-6.false, tested c.is_property-else-is_property-6.ensures c.if-is_property-7.false, tested c.is_property-else-is_property-7.ensures c.if-is_property-8.true) (c.is_recurrence.ensures ∙ ap (λ bs. is_some (recurrence_of bs)) c.behind_first-text.ensures ∙ sym (mapped_told pair.Recurrence (recurrence_of (behind 61 (bare c.args.taken.now)))))

pub returns-then-is_property-9 : goal.returns-then-is_property-9
returns-then-is_property-9 c =
    rw (tested c.is_property.ensures c.if-is_property.false, tested c.is_property-else-is_property.ensures c.if-is_property-2.false, tested c.is_property-else-is_property-2.ensures c.if-is_property-3.false, tested c.is_property-else-is_property-3.ensures c.if-is_property-4.false, tested c.is_property-else-is_property-4.ensures c.if-is_property-5.false, tested c.is_property-else-is_property-5.ensures c.if-is_property-6.false, tested c.is_property-else-is_property-6.ensures c.if-is_property-7.false, tested c.is_property-else-is_property-7.ensures c.if-is_property-8.false, tested c.is_property-else-is_property-8.ensures c.if-is_property-9.true) (c.is_midnight.ensures ∙ ap (λ bs. is_some (midnight_of bs)) c.behind_first-text.ensures ∙ sym (mapped_told pair.Midnight (midnight_of (behind 61 (bare c.args.taken.now)))))

pub returns-else-is_property-9 : goal.returns-else-is_property-9
returns-else-is_property-9 c = rw (tested c.is_property.ensures c.if-is_property.false, tested c.is_property-else-is_property.ensures c.if-is_property-2.false, tested c.is_property-else-is_property-2.ensures c.if-is_property-3.false, tested c.is_property-else-is_property-3.ensures c.if-is_property-4.false, tested c.is_property-else-is_property-4.ensures c.if-is_property-5.false, tested c.is_property-else-is_property-5.ensures c.if-is_property-6.false, tested c.is_property-else-is_property-6.ensures c.if-is_property-7.false, tested c.is_property-else-is_property-7.ensures c.if-is_property-8.false, tested c.is_property-else-is_property-8.ensures c.if-is_property-9.false)
