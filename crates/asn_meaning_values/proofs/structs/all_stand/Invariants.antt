use Rattle.std.proofs.Common.{◌≡◌, drop}
use Rattle.asn_meaning_values.proofs.Fielding.{names}
use Rattle.asn_meaning_values.specs.inner.Structs.{all_stand}
use Rattle.asn_meaning_shapes.specs.Members.{shown_members}
use Rattle.asn_meaning_values.proofs.structs.all_stand.Given as goal

abbrev pub invariant-loop-member : goal.invariant-loop-member
invariant-loop-member l = all_stand (names l.fields) (shown_members (drop l.member-index l.members)) ≡ all_stand (names l.fields) (shown_members l.members)
