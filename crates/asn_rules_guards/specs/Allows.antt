-- What each guard lets pass.
use Rattle.std.specs.Prelude.{ℕ, List, Bool, true, ◌||◌, not}
use Rattle.std.specs.Option.{is_some}
use Rattle.asn_rules_guards.specs.Lexical.{keywords}
use Rattle.asn_rules_guards.specs.Guards.{bare, among, names_class, natural, integer, is_base_of, is_real, is_character, is_setting, is_time, has_labels}
use Rattle.asn_rules_guards.specs.Enumerations.{numbers_fit}
use Rattle.asn_rules_guards.specs.declared.asked.Guard.{Guard}
use Rattle.asn_rules_guards.specs.declared.asked.Guard.TheVariants.{NoKeyword, NamesClass, FitsU64, FitsU128, FitsI128, FitsI32, FitsU8, IsBase, FitsReal, IsCharacter, IsSetting, IsTime, HasLabels, NumbersFit}

-- whether the guard lets pass what was taken
abbrev pub allows : Guard → List ℕ → Bool
allows NoKeyword taken = not (among keywords (bare taken))
allows NamesClass taken = not (among keywords (bare taken)) || names_class (bare taken)
allows FitsU64 taken = is_some (natural 64 (bare taken))
allows FitsU128 taken = is_some (natural 128 (bare taken))
allows FitsI128 taken = is_some (integer 127 (bare taken))
allows FitsI32 taken = is_some (integer 31 (bare taken))
allows FitsU8 taken = is_some (natural 8 (bare taken))
allows IsBase taken = is_base_of (natural 128 (bare taken))
allows FitsReal taken = is_real (bare taken)
allows IsCharacter taken = is_character (bare taken)
allows IsSetting taken = is_setting (bare taken)
allows IsTime taken = is_time taken
allows HasLabels taken = has_labels true taken
allows NumbersFit taken = numbers_fit taken
