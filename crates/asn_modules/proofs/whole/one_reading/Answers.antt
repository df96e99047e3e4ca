use Rattle.std.proofs.Common.{arith}
use Rattle.asn_rules.specs.Whole.{whole_rules}
use Rattle.asn_rules.specs.declared.grammar.Grammar.TheVariants.{Whole}
use Rattle.asn_modules.specs.Modules.{reading_of}
use Rattle.asn_read_nodes.proofs.Readings.{one_reading_by}
use Rattle.asn_modules.proofs.whole.one_reading.Goals as goal

pub returns : goal.returns
returns c text r r' p q = one_reading_by whole_rules reading_of text (c.one_tree.ensures Whole text 190 0 (omega arith)) r r' p q
