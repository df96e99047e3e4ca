use Rattle.asn_link.proofs.Left.{left_are_clean}
use Rattle.asn_link.proofs.laws.left_are_clean.Goals as goal

pub returns : goal.returns
returns c = left_are_clean c.retagged_stay.ensures c.retagged_names_are_the_same.ensures c.unchanged_names_are_references.ensures
