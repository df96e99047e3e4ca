use Rattle.std.proofs.Common.{◌≡◌, ◌++◌, drop, map}
use Rattle.asn_places_types.specs.Sites.{shown_around, shown_sites}
use Rattle.asn_needs.specs.Sites.{each_of}
use Rattle.asn_needs.specs.PartsOfTypes.{member_sites}
use Rattle.asn_tree.specs.declared.types.SequenceOrSetMember.{out-SequenceOrSetMember}
use Rattle.asn_places_types.proofs.components.with_members.Given as goal

abbrev pub invariant-loop-member : goal.invariant-loop-member
invariant-loop-member l = shown_sites l.sites ++ each_of (λ m. member_sites (shown_around l.around.value) (out-SequenceOrSetMember m)) (drop l.member-index l.members) ≡ shown_sites l.initial.sites ++ each_of (λ m. member_sites (shown_around l.around.value) (out-SequenceOrSetMember m)) l.members
