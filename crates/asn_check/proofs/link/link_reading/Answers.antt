use Rattle.std.proofs.Common.{◌∙◌}
use Rattle.asn_check.proofs.link.link_reading.Goals as goal

pub link_judged-requires-clause-read : goal.link_judged-requires-clause-read
link_judged-requires-clause-read c = c.in_ok-names.ensures ∙ c.in_ok-definitions.ensures
