use Rattle.std.proofs.Common.{◌≡◌, ◌≤◌, ◌+◌, drop}
use Rattle.asn_link_values.proofs.Rising.{roots}
use Rattle.asn_link_values.proofs.parts.root_count.Given as goal

abbrev pub invariant-loop-member : goal.invariant-loop-member
invariant-loop-member l = (l.count ≤ l.member-index) × (l.count + roots (drop l.member-index l.members) ≡ roots l.members)
