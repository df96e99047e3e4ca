use Rattle.std.proofs.Common.{◌≡◌, ◌<◌, ◌≤◌, ◌++◌, arith, length, map}
use Rattle.asn_places_types.specs.Sites.{shown_around, shown_sites}
use Rattle.asn_needs.specs.Sites.{each_of}
use Rattle.asn_needs.specs.PartsOfTypes.{member_sites}
use Rattle.asn_tree.specs.declared.types.SequenceOrSetMember.{out-SequenceOrSetMember}
use Rattle.asn_places_types.proofs.Adding.{each_next, each_done}
use Rattle.asn_places_types.proofs.components.with_members.Goals as goal

pub loop-member-preserved : goal.loop-member-preserved
loop-member-preserved c =
    let lt : c.loop-member.member-index < length c.args.members.now = omega arith in
    each_next (λ m. member_sites (shown_around c.args.around.now.value) (out-SequenceOrSetMember m)) c.args.members.now c.loop-member.member-index c.member-item.result (shown_sites c.loop-member.sites) lt c.member-item.is c.loop-member.invariant c.in_ok-sites.ensures

pub returns : goal.returns
returns c =
    let le : length c.args.members.now ≤ c.loop-member.member-index = omega arith in
    each_done (λ m. member_sites (shown_around c.args.around.now.value) (out-SequenceOrSetMember m)) c.args.members.now c.loop-member.member-index le c.loop-member.invariant
