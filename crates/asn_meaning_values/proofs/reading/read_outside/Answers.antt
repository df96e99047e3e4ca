use Rattle.std.proofs.Common.{ap}
use Rattle.asn_meaning_heads.proofs.Scoping.{shown_nothing}
use Rattle.asn_meaning_heads.specs.Kinds.{shown_type}
use Rattle.asn_meaning_heads.specs.Values.{shown_value}
use Rattle.asn_meaning_values.proofs.Paths.{read_in}
use Rattle.asn_meaning_values.proofs.reading.read_outside.Goals as goal

pub returns : goal.returns
returns c = ap (read_in (shown_value c.args.value) (shown_type c.args.ty)) shown_nothing
