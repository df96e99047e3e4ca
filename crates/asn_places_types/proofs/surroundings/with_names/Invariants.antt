use Rattle.std.proofs.Common.{◌≡◌, ◌++◌, drop, map}
use Rattle.asn_places_types.proofs.surroundings.with_names.Given as goal

abbrev pub invariant-loop-other : goal.invariant-loop-other
invariant-loop-other l = map (λ n. n.now) l.names ++ map (λ n. n.now) (drop l.other-index l.others) ≡ map (λ n. n.now) l.initial.names ++ map (λ n. n.now) l.others
