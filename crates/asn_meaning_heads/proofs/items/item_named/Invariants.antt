use Rattle.std.proofs.Common.{◌≡◌, drop}
use Rattle.asn_meaning.specs.Members.{item_named}
use Rattle.asn_meaning_heads.proofs.items.item_named.Given as goal

abbrev pub invariant-loop-item : goal.invariant-loop-item
invariant-loop-item l = item_named (drop l.item-index l.items) l.name ≡ item_named l.items l.name
