use Rattle.std.proofs.Common.{◌≡◌, ◌++◌, drop, map}
use Rattle.asn_names_circles.specs.Circles.{leading}
use Rattle.asn_names_circles.proofs.leading.leading_of.Given as goal

abbrev pub invariant-loop-definition : goal.invariant-loop-definition
invariant-loop-definition l =
    map (map (λ n. n.now)) l.lists ++ map (leading l.index.definitions.now) (map (λ d. d.now) (drop l.definition-index l.definitions))
    ≡ map (leading l.index.definitions.now) (map (λ d. d.now) l.definitions)
