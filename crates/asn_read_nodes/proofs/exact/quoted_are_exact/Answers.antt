use Rattle.asn_rules.specs.declared.grammar.Grammar.TheVariants.{Whole}
use Rattle.asn_read_nodes.proofs.ExactReadings.{quoted_exact, quoted_characters}
use Rattle.asn_read_nodes.proofs.exact.quoted_are_exact.Goals as goal

pub returns-clause-bytes : goal.returns-clause-bytes
returns-clause-bytes c text n u is b = quoted_exact text n u is (c.children_at_characters.ensures Whole text n u is b)

pub returns-clause-characters : goal.returns-clause-characters
returns-clause-characters c text n u is b = quoted_characters text n u is (c.children_at_characters.ensures Whole text n u is b)
