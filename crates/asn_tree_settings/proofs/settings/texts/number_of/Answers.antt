use Rattle.std.proofs.Common.{◌≡◌, ℕ, true, Ok, Err}
use Rattle.asn_tree_settings.specs.Settings.{starts_with_digit}
use Rattle.asn_tree_settings.proofs.Numerals.{parsed}
use Rattle.asn_tree_settings.proofs.settings.texts.number_of.Goals as goal

pub returns-in-Ok : goal.returns-in-Ok
returns-in-Ok c =
    let starts : starts_with_digit c.args.digits.now ≡ true = cc in
    parsed {E = ℕ} c.args.digits.now (Ok c.in-Ok.number) c.in-Ok.ensures.value.0 starts

pub returns-in-Err : goal.returns-in-Err
returns-in-Err c =
    let starts : starts_with_digit c.args.digits.now ≡ true = cc in
    parsed {E = ℕ} c.args.digits.now (Err 0) c.in-Err.ensures.value.0 starts
