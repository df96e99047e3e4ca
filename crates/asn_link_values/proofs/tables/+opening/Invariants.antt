use Rattle.std.proofs.Common.{◌≡◌, ◌+◌, ◌*◌, ◌++◌, drop, map}
use Rattle.asn_meaning_heads.specs.Scopes.{shown}
use Rattle.asn_link_instance.specs.Tables.{members_bound, opened}
use Rattle.asn_link_values.specs.Sets.{shown_set_member}
use Rattle.asn_link_values.specs.inner.Binding.{depth}
use Rattle.asn_link_values.proofs.tables.+opening.Given as goal

abbrev pub decreases-members_bound : goal.decreases-members_bound
decreases-members_bound l = 4 * depth (shown l.scope.now)

abbrev pub decreases-value_members : goal.decreases-value_members
decreases-value_members l = 4 * depth (shown l.scope.now) + 1

abbrev pub decreases-opened_one : goal.decreases-opened_one
decreases-opened_one l = 4 * depth (shown l.scope.now) + 1

abbrev pub decreases-opened : goal.decreases-opened
decreases-opened l = 4 * depth (shown l.scope.now) + 2

abbrev pub decreases-argument_members : goal.decreases-argument_members
decreases-argument_members l = 4 * depth (shown l.scope.now) + 3

abbrev pub invariant-opened-loop-member : goal.invariant-opened-loop-member
invariant-opened-loop-member l =
    map shown_set_member l.found ++ opened (members_bound (shown l.scope)) (drop l.member-index l.members)
    ≡ map shown_set_member l.initial.found ++ opened (members_bound (shown l.scope)) l.members
