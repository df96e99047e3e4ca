use Rattle.std.proofs.Common.{ap}
use Rattle.asn_meaning_heads.proofs.Scoping.{shown_nothing}
use Rattle.asn_meaning.specs.Definitions.{plain_identifier}
use Rattle.asn_meaning.specs.Scopes.{Place, Scope}
use Rattle.asn_link_types.proofs.leaves.rules_read.Goals as goal

abbrev identifier_in : Scope → Place
identifier_in scope = record { scope = scope; ty = plain_identifier }

pub returns : goal.returns
returns c = ap identifier_in shown_nothing
