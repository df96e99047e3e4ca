-- Settings of the properties of the time types (X.680 51.10).
use Rattle.std.specs.Prelude.{ℕ, List, Option, Some}
use Rattle.asn_rules_guards.specs.Guards.{bare, before, behind}
use Rattle.asn_rules.specs.declared.names.TheConstants.{SETTING_PAIR}
use Rattle.asn_rules.specs.declared.node.Node.{Node}
use Rattle.asn_rules.specs.declared.node.Node.TheViews.{out-Node}
use Rattle.asn_rules.specs.Nodes.{at_children}
use Rattle.asn_tree_settings.specs.Settings.{pair_of}
use Rattle.asn_tree_settings.specs.declared.settings.PropertyAndSettingsPair.{PropertyAndSettingsPair}
use Rattle.asn_tree_settings.specs.declared.settings.PropertySettings.{PropertySettings}
use Rattle.asn_read_nodes.specs.Parts.{all_some, of_some, taken}

-- the setting that bytes tell: before the first `=` the property's name, behind it the setting's text
abbrev pub pair_by : List ℕ → Option PropertyAndSettingsPair
pair_by bytes = pair_of (before 61 bytes) (behind 61 bytes)

-- a property with its setting, blanks and comments aside
unfoldable pub setting_of : List ℕ → Node → Option PropertyAndSettingsPair
setting_of text n = pair_by (bare (taken text n))

abbrev pub settings_in : List ℕ → List Node → Option (List PropertyAndSettingsPair)
settings_in text ns = all_some (at_children ns SETTING_PAIR (setting_of text))

-- the settings in the quotes, in order
abbrev pub settings_of : List ℕ → Node → Option PropertySettings
settings_of text n = of_some (settings_in text (out-Node n).children) (λ settings. Some (record { property_settings_list = settings }))
