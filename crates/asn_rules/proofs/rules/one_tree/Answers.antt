use Rattle.asn_rules.specs.Expression.{rule}
use Rattle.asn_rules.specs.Grammar.{rules_of}
use Rattle.asn_rules.proofs.Trees.{one_tree_each}
use Rattle.asn_rules.proofs.rules.one_tree.Goals as goal

pub returns : goal.returns
returns c grammar text number offset le = one_tree_each (rules_of grammar) text (rule number) offset le
