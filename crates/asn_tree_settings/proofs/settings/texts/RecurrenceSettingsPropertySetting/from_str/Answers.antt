use Rattle.std.proofs.Common.{ap}
use Rattle.std.specs.Option.{option_map}
use Rattle.asn_tree_settings.specs.declared.settings.RecurrenceSettings.TheVariants.{Recurrences}
use Rattle.asn_tree_settings.proofs.RowsPassed.{other}
use Rattle.asn_tree_settings.proofs.settings.texts.RecurrenceSettingsPropertySetting.from_str.Goals as goal

pub returns-in-None : goal.returns-in-None
returns-in-None c =
    let passed = c.in_default in
    rw (other passed.not-Unlimited) (ap (option_map Recurrences) c.in-None.ensures)
