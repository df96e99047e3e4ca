use Rattle.std.proofs.Common.{◌≡◌, map}
use Rattle.asn_tree.specs.MakingComponents.{with_parts}
use Rattle.asn_tree.proofs.making.components.with_each.Given as goal

abbrev pub invariant-loop-component : goal.invariant-loop-component
invariant-loop-component g l = l.sorted ≡ with_parts l.are_additions l.fn.sorted (map g.C.Component.part l.yielded)
