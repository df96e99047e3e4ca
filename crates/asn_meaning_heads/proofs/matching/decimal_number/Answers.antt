use Rattle.std.proofs.Common.{◌≡◌, ◌∙◌, true}
use Rattle.asn_tree_settings.specs.Settings.{starts_with_digit}
use Rattle.asn_meaning_heads.proofs.Numbers.{parsed}
use Rattle.asn_meaning_heads.proofs.matching.decimal_number.Goals as goal

pub returns-then-starts_with_digit : goal.returns-then-starts_with_digit
returns-then-starts_with_digit c =
    let starts : starts_with_digit c.args.text.now ≡ true = cc in
    c.ok.ensures.value ∙ parsed c.args.text.now c.parse.result c.parse.ensures.value.0 starts
