use Rattle.asn_types.proofs.Numbers.{numbers_are}
use Rattle.asn_types.proofs.laws.numbers_are_the_standards.Goals as goal

pub returns : goal.returns
returns c root additions numbers are fit = numbers_are root additions numbers are fit
