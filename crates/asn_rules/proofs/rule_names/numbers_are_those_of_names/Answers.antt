use Rattle.std.proofs.Common.{refl}
use Rattle.asn_rules.specs.RuleNames.{numbered, rule_names}
use Rattle.asn_rules.proofs.rule_names.numbers_are_those_of_names.Goals as goal

pub returns : goal.returns
unfolding numbered rule_names
returns c = refl
