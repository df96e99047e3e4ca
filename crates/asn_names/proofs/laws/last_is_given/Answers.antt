use Rattle.asn_names.proofs.Given.{last_given}
use Rattle.asn_names.proofs.laws.last_is_given.Goals as goal

pub returns : goal.returns
returns c = last_given
