use Rattle.asn_link_passes.proofs.Kept.{promise}
use Rattle.asn_link_passes.proofs.promises.instances_promise.Goals as goal

pub returns : goal.returns
returns c = promise c.substitution.ensures c.literals_kept.ensures c.literals_plain.ensures c.instances_are_plain.ensures
