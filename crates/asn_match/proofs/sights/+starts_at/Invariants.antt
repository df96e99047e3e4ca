use Rattle.std.proofs.Common.{length}
use Rattle.asn_match.proofs.sights.+starts_at.Given as goal

abbrev pub decreases-starts_at : goal.decreases-starts_at
decreases-starts_at g l = length l.bytes.now
