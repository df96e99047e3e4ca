use Rattle.std.proofs.Common.{◌≡◌, drop}
use Rattle.asn_meaning_shapes.specs.Members.{shown_members}
use Rattle.asn_meaning.specs.Members.{member_named}
use Rattle.asn_meaning_shapes.proofs.members.member_named.Given as goal

abbrev pub invariant-loop-member : goal.invariant-loop-member
invariant-loop-member l = member_named (shown_members (drop l.member-index l.members)) l.name ≡ member_named (shown_members l.members) l.name
