use Rattle.std.proofs.Common.{◌≡◌, take}
use Rattle.asn_copy_linked.proofs.lists.copy_list.Given as goal

abbrev pub invariant-loop-item : goal.invariant-loop-item
invariant-loop-item g l = goal.F-IsAlwaysCallable g l.copy_item × (l.copies ≡ take l.item-index l.item-items)
