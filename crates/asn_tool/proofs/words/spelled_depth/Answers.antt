use Rattle.std.proofs.Common.{◌≡◌, ℕ, true, Ok, Err, ◌∙◌}
use Rattle.asn_tool.specs.Words.{starts_above_zero}
use Rattle.asn_tool.proofs.Spelled.{spelled}
use Rattle.asn_tool.proofs.words.spelled_depth.Goals as goal

pub returns-in-Ok : goal.returns-in-Ok
returns-in-Ok c =
    let starts : starts_above_zero c.args.word.now ≡ true = cc in
    c.at_most_greatest.ensures ∙ spelled {E = ℕ} c.args.word.now (Ok c.in-Ok.depth) c.in-Ok.ensures.value.0 starts

pub returns-in-Err : goal.returns-in-Err
returns-in-Err c =
    let starts : starts_above_zero c.args.word.now ≡ true = cc in
    spelled {E = ℕ} c.args.word.now (Err 0) c.in-Err.ensures.value.0 starts
