use Rattle.std.proofs.Common.{◌≡◌, ◌++◌, drop, map}
use Rattle.asn_link_values.specs.Sets.{shown_set_member}
use Rattle.asn_link_types.proofs.sets.copied_members.Given as goal

abbrev pub invariant-loop-member : goal.invariant-loop-member
invariant-loop-member l = l.copies ++ map shown_set_member (drop l.member-index l.members) ≡ map shown_set_member l.members
