use Rattle.std.proofs.Common.{◌≡◌, drop}
use Rattle.asn_meaning_shapes.specs.Members.{shown_members}
use Rattle.asn_meaning_shapes.specs.Trees.{shown_fields}
use Rattle.asn_meaning.specs.Members.{member_names}
use Rattle.asn_meaning.specs.ValueTrees.{are_among}
use Rattle.asn_meaning_shapes.proofs.by_name.MembersByName.has_members_for.Given as goal

abbrev pub invariant-loop-field : goal.invariant-loop-field
invariant-loop-field l =
    are_among (member_names (shown_members l.self.members.now)) (shown_fields (drop l.field-index l.fields)) ≡ are_among (member_names (shown_members l.self.members.now)) (shown_fields l.fields)
