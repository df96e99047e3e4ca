use Rattle.asn_rules.specs.declared.grammar.Grammar.TheVariants.{Whole}
use Rattle.asn_read_nodes.proofs.ExactReadings.{name_exact}
use Rattle.asn_read_nodes.proofs.exact.names_are_exact.Goals as goal

pub returns : goal.returns
returns c text n u is b e = name_exact text n u is e (c.children_at_characters.ensures Whole text n u is b)
