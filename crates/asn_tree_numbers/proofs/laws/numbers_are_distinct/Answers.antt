use Rattle.asn_tree_numbers.proofs.Distinct.{are_distinct}
use Rattle.asn_tree_numbers.proofs.laws.numbers_are_distinct.Goals as goal

pub returns : goal.returns
returns c = are_distinct
