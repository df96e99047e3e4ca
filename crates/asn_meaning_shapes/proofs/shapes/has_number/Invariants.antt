use Rattle.std.proofs.Common.{◌≡◌, drop}
use Rattle.std.specs.List.{list_any}
use Rattle.asn_meaning.specs.ValueTrees.{same_number}
use Rattle.asn_meaning_shapes.proofs.shapes.has_number.Given as goal

abbrev pub invariant-loop-item : goal.invariant-loop-item
invariant-loop-item l = list_any (λ x. same_number x.index l.number) (drop l.item-index l.items) ≡ list_any (λ x. same_number x.index l.number) l.items
