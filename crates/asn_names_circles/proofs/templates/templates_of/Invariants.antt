use Rattle.std.proofs.Common.{◌≡◌, ◌++◌, drop, map}
use Rattle.asn_names_circles.specs.Circles.{templates_among}
use Rattle.asn_names_circles.proofs.templates.templates_of.Given as goal

abbrev pub invariant-loop-several : goal.invariant-loop-several
invariant-loop-several l =
    map (map (λ n. n.now)) l.lists ++ map (templates_among l.names.definitions.now) (map (map (λ n. n.now)) (drop l.several-index l.mentions))
    ≡ map (templates_among l.names.definitions.now) (map (map (λ n. n.now)) l.mentions)
