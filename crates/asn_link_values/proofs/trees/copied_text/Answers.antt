use Rattle.std.proofs.Common.{Some, ap, sym, ◌∙◌}
use Rattle.asn_link_values.proofs.Writing.{text_again}
use Rattle.asn_link_values.proofs.trees.copied_text.Goals as goal

pub returns : goal.returns
returns c = text_again c.args.text.now c.utf8.text ∙ ap Some (sym c.in_ok-copied.ensures)
