use Rattle.std.proofs.Common.{◌≡◌, ◌++◌, drop}
use Rattle.asn_meaning_shapes.specs.Members.{shown_members}
use Rattle.asn_meaning_shapes.proofs.Putting.{roots}
use Rattle.asn_meaning_shapes.proofs.components.moved_roots.Given as goal

abbrev pub invariant-loop-member : goal.invariant-loop-member
invariant-loop-member l = shown_members l.roots ++ roots l.among (drop l.member-index l.members) ≡ roots l.among l.members
