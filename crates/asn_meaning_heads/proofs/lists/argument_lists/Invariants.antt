use Rattle.std.proofs.Common.{◌≡◌, drop}
use Rattle.asn_meaning.specs.Names.{lists_in}
use Rattle.asn_meaning_heads.specs.Lists.{counted, joined, shown_lists}
use Rattle.asn_meaning_heads.proofs.lists.argument_lists.Given as goal

abbrev pub invariant-loop-constraint : goal.invariant-loop-constraint
invariant-loop-constraint l = joined (shown_lists l.lists) (lists_in (drop l.constraint-index l.constraints)) ≡ counted (lists_in l.constraints)
