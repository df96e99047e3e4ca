use Rattle.asn_names.proofs.Standing.{given_standing, standing_given}
use Rattle.asn_names.proofs.laws.standing_are_given.Goals as goal

pub returns : goal.returns
returns c = λ reading standing. (standing_given reading standing, given_standing reading standing)
