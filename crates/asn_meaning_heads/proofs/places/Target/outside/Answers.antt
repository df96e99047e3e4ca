use Rattle.std.proofs.Common.{ap}
use Rattle.asn_meaning_heads.specs.Kinds.{shown_type}
use Rattle.asn_meaning_heads.proofs.Scoping.{shown_nothing}
use Rattle.asn_meaning.specs.Scopes.{bare}
use Rattle.asn_meaning_heads.proofs.places.Target.outside.Goals as goal

pub returns : goal.returns
returns c = ap (λ scope. bare scope (shown_type c.args.ty)) shown_nothing
