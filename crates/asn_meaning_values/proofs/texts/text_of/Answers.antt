use Rattle.std.proofs.Common.{◌∙◌}
use Rattle.asn_meaning_values.proofs.Spelling.{one_character}
use Rattle.asn_meaning_values.proofs.texts.text_of.Goals as goal

pub returns : goal.returns
returns c = one_character c.in_ok-text.text c.args.character c.ranges.character.0 (c.in_ok-text.ensures ∙ c.encode_utf8.ensures.value)
