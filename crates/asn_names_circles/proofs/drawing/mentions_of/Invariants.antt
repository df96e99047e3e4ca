use Rattle.std.proofs.Common.{◌≡◌, ◌++◌, drop, map}
use Rattle.asn_names_references.specs.References.{references_of}
use Rattle.asn_names_circles.proofs.drawing.mentions_of.Given as goal

abbrev pub invariant-loop-definition : goal.invariant-loop-definition
invariant-loop-definition l =
    map (map (λ n. n.now)) l.lists ++ map references_of (map (λ d. d.now) (drop l.definition-index l.definitions)) ≡ map references_of (map (λ d. d.now) l.definitions)
