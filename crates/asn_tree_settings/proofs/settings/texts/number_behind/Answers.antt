use Rattle.std.proofs.Common.{ap, ◌∙◌}
use Rattle.asn_tree_settings.specs.Settings.{number_of}
use Rattle.asn_tree_settings.proofs.Numerals.{word_first, other_word}
use Rattle.asn_tree_settings.proofs.settings.texts.number_behind.Goals as goal

pub returns-in-Some : goal.returns-in-Some
returns-in-Some c =
    let cut = c.in-Some.ensures.cases in
    c.number_of.ensures ∙ ap number_of cut.2 ∙ word_first c.args.word.now c.args.text.now cut.0 cut.1

pub returns-in-None : goal.returns-in-None
returns-in-None c = other_word c.args.word.now c.args.text.now c.in-None.ensures.cases
