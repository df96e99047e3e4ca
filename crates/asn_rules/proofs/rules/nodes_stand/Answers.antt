use Rattle.asn_rules.specs.Expression.{rule}
use Rattle.asn_rules.specs.Grammar.{rules_of}
use Rattle.asn_rules.proofs.Trees as trees
use Rattle.asn_rules.proofs.rules.nodes_stand.Goals as goal

pub returns : goal.returns
returns c grammar text number i j nodes le p = trees.nodes_stand (rules_of grammar) text (rule number) i j nodes le p
