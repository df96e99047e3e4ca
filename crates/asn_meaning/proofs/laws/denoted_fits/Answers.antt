use Rattle.asn_meaning.proofs.Denoting.{denoted_fits_at}
use Rattle.asn_meaning.proofs.laws.denoted_fits.Goals as goal

pub returns : goal.returns
returns c = λ defs n scope v p t d e. denoted_fits_at defs n scope v p t d e
