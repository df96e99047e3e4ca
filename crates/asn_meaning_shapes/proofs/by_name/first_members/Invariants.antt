use Rattle.std.proofs.Common.{◌≡◌, ℕ, List, drop}
use Rattle.asn_meaning_shapes.specs.ByName.{first_named, name_of_member, under_name}
use Rattle.asn_meaning_shapes.proofs.by_name.first_members.Given as goal

abbrev pub invariant-loop-at : goal.invariant-loop-at
invariant-loop-at l = (name : List ℕ) → under_name l.found name ≡ first_named name_of_member (drop l.at l.members) name
