use Rattle.std.proofs.Common.{◌≡◌, drop}
use Rattle.asn_meaning_shapes.specs.Members.{shown_members}
use Rattle.asn_meaning.specs.Members.{member_names}
use Rattle.asn_meaning.specs.ValueTrees.{is_among}
use Rattle.asn_meaning_shapes.proofs.shapes.is_member.Given as goal

abbrev pub invariant-loop-member : goal.invariant-loop-member
invariant-loop-member l = is_among (member_names (shown_members (drop l.member-index l.members))) l.name ≡ is_among (member_names (shown_members l.members)) l.name
