use Rattle.std.proofs.Common.{◌≡◌, ◌++◌, drop, map}
use Rattle.asn_names_circles.specs.Circles.{templates_among}
use Rattle.asn_names_circles.proofs.templates.templates_among.Given as goal

abbrev pub invariant-loop-name : goal.invariant-loop-name
invariant-loop-name l =
    map (λ n. n.now) l.found ++ templates_among l.names.definitions.now (map (λ n. n.now) (drop l.name-index l.several)) ≡ templates_among l.names.definitions.now (map (λ n. n.now) l.several)
