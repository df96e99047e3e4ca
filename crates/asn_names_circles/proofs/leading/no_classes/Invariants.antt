use Rattle.std.proofs.Common.{◌≡◌, ◌++◌, drop, map}
use Rattle.std.specs.Prelude.{filter, not}
use Rattle.asn_meaning.specs.Definitions.{is_class}
use Rattle.asn_names_circles.proofs.leading.no_classes.Given as goal

abbrev pub invariant-loop-name : goal.invariant-loop-name
invariant-loop-name l =
    map (λ n. n.now) l.found ++ filter (λ name. not (is_class l.index.definitions.now name)) (map (λ n. n.now) (drop l.name-index l.several))
    ≡ filter (λ name. not (is_class l.index.definitions.now name)) (map (λ n. n.now) l.several)
