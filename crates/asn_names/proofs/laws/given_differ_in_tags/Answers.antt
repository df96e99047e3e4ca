use Rattle.asn_names.proofs.Standing.{given_differ}
use Rattle.asn_names.proofs.laws.given_differ_in_tags.Goals as goal

pub returns : goal.returns
returns c = given_differ c.environments_change_tags.ensures
