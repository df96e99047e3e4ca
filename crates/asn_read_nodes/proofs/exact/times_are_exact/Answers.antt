use Rattle.asn_rules.specs.declared.grammar.Grammar.TheVariants.{Whole}
use Rattle.asn_read_nodes.proofs.ExactReadings.{time_exact}
use Rattle.asn_read_nodes.proofs.exact.times_are_exact.Goals as goal

pub returns : goal.returns
returns c text n u is b = time_exact text n u is (c.children_at_characters.ensures Whole text n u is b)
