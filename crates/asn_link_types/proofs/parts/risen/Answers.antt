use Rattle.std.proofs.Common.{[]}
use Rattle.asn_link_types.proofs.parts.risen.Goals as goal

pub returns : goal.returns
returns c = c.marker_risen.ensures [] 0 0
