use Rattle.std.proofs.Common.{ap, ◌∙◌}
use Rattle.asn_rules_guards.specs.Lexical.{keywords}
use Rattle.asn_rules_guards.specs.Guards.{among}
use Rattle.asn_rules_guards.proofs.guards.is_keyword.Goals as goal

pub returns : goal.returns
unfolding keywords
returns c = c.is_one_of.ensures ∙ ap (among keywords) c.behind_gap.ensures.same
