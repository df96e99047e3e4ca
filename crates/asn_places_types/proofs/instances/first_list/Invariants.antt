use Rattle.std.proofs.Common.{◌≡◌, drop}
use Rattle.asn_meaning.specs.Names.{lists_in}
use Rattle.asn_places_types.specs.inner.Lists.{split}
use Rattle.asn_places_types.proofs.instances.first_list.Given as goal

abbrev pub invariant-loop-i : goal.invariant-loop-i
invariant-loop-i l = split (lists_in (drop l.i l.constraints)) ≡ split (lists_in l.constraints)
