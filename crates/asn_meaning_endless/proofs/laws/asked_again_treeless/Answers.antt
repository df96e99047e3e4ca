use Rattle.asn_meaning_endless.proofs.Asking.{asked_again_treeless}
use Rattle.asn_meaning_endless.proofs.laws.asked_again_treeless.Goals as goal

pub returns : goal.returns
returns c = asked_again_treeless
