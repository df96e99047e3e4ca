use Rattle.std.proofs.Common.{sym, ◌∙◌}
use Rattle.asn_rules_guards.specs.Guards.{bare}
use Rattle.asn_rules_guards.proofs.SettingTexts.{time_told}
use Rattle.asn_rules_guards.proofs.setting_pairs.is_time_of_day.Goals as goal

pub returns : goal.returns
returns c = c.is_told.ensures ∙ sym (time_told (bare c.args.text.now))
