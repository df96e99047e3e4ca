use Rattle.asn_check.proofs.Stays.{keeps}
use Rattle.asn_check.proofs.laws.linking_keeps_meaning.Goals as goal

pub returns : goal.returns
returns c = keeps c.given_differ_in_tags.ensures c.retagged_types_mean_the_same.ensures c.clean_mean_the_same.ensures
