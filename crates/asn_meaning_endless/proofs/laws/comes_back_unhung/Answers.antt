use Rattle.asn_meaning_endless.proofs.Hanging.{comes_back_unhung}
use Rattle.asn_meaning_endless.proofs.laws.comes_back_unhung.Goals as goal

pub returns : goal.returns
returns c = comes_back_unhung
