use Rattle.std.proofs.Common.{sym, ◌∙◌}
use Rattle.asn_rules_guards.specs.Guards.{bare}
use Rattle.asn_rules_guards.proofs.SettingTexts.{basic_told}
use Rattle.asn_rules_guards.proofs.setting_pairs.is_basic.Goals as goal

pub returns : goal.returns
returns c = c.is_one_of.ensures ∙ sym (basic_told (bare c.args.text.now))
