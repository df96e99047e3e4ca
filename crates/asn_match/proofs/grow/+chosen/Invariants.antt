use Rattle.asn_rules.specs.Expression.{expression, weight}
use Rattle.asn_match.proofs.grow.+chosen.Given as goal

abbrev pub decreases-chosen : goal.decreases-chosen
decreases-chosen l = weight (expression l.right.now)
