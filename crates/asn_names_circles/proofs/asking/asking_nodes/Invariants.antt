use Rattle.std.proofs.Common.{◌≡◌, ◌++◌, drop, map}
use Rattle.asn_names_circles.specs.Circles.{is_asking}
use Rattle.asn_names_circles.proofs.asking.asking_nodes.Given as goal

abbrev pub invariant-loop-definition : goal.invariant-loop-definition
invariant-loop-definition l = l.told ++ map (is_asking l.index.definitions.now) (map (λ d. d.now) (drop l.definition-index l.definitions)) ≡ map (is_asking l.index.definitions.now) (map (λ d. d.now) l.definitions)
