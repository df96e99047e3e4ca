use Rattle.asn_rules_guards.proofs.Exact.{is_exact}
use Rattle.asn_rules_guards.proofs.enumerations.fit_is_exact.Goals as goal

pub returns : goal.returns
returns c = is_exact
