use Rattle.asn_tree_settings.proofs.RowsPassed.{other}
use Rattle.asn_tree_settings.proofs.settings.texts.BasicSettingsPropertySetting.from_str.Goals as goal

pub returns-in_default : goal.returns-in_default
returns-in_default c =
    let passed = c.in_default in
    rw (other passed.not-Date, other passed.not-Time, other passed.not-text, other passed.not-Interval, other passed.not-text-2)
