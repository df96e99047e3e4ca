use Rattle.std.proofs.Common.{◌≡◌, map}
use Rattle.asn_tree_kinds.specs.MakingConstraints.{component_of}
use Rattle.asn_tree_kinds.proofs.making.constraints.components_of.Given as goal

abbrev pub invariant-loop-name : goal.invariant-loop-name
invariant-loop-name g l = l.made ≡ map (λ c. component_of c.0.now c.1 c.2) l.yielded
