use Rattle.asn_link.proofs.Meaning.{clean_mean_the_same}
use Rattle.asn_link.proofs.laws.clean_mean_the_same.Goals as goal

pub returns : goal.returns
returns c = clean_mean_the_same c.made_are_instances.ensures c.closed_definitions_close.ensures c.closed_names_mean_the_same.ensures
