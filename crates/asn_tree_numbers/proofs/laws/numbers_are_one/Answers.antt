use Rattle.asn_tree_numbers.proofs.Distinct.{are_one}
use Rattle.asn_tree_numbers.proofs.laws.numbers_are_one.Goals as goal

pub returns : goal.returns
returns c = are_one
