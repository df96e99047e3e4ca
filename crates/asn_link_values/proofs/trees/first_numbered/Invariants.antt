use Rattle.std.proofs.Common.{◌≡◌, drop}
use Rattle.asn_link_values.specs.inner.Numbered.{first_numbered}
use Rattle.asn_link_values.proofs.trees.first_numbered.Given as goal

abbrev pub invariant-loop-item : goal.invariant-loop-item
invariant-loop-item l = first_numbered (drop l.item-index l.items) l.number ≡ first_numbered l.items l.number
