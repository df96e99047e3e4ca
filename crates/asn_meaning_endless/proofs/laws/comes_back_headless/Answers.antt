use Rattle.asn_meaning_endless.proofs.Circling.{comes_back_headless}
use Rattle.asn_meaning_endless.proofs.laws.comes_back_headless.Goals as goal

pub returns : goal.returns
returns c = comes_back_headless
