use Rattle.std.proofs.Common.{◌≡◌, drop}
use Rattle.asn_meaning_values.proofs.Fielding.{names}
use Rattle.asn_meaning.specs.ValueTrees.{is_among}
use Rattle.asn_meaning_values.proofs.structs.is_named.Given as goal

abbrev pub invariant-loop-field : goal.invariant-loop-field
invariant-loop-field l = is_among (names (drop l.field-index l.fields)) l.name ≡ is_among (names l.fields) l.name
