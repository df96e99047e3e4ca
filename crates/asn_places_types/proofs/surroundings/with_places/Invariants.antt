use Rattle.std.proofs.Common.{◌≡◌, ◌++◌, drop, map}
use Rattle.asn_meaning_heads.specs.Places.{shown_place}
use Rattle.asn_places_types.proofs.surroundings.with_places.Given as goal

abbrev pub invariant-loop-other : goal.invariant-loop-other
invariant-loop-other l = map shown_place l.places ++ map (shown_place) (drop l.other-index l.others) ≡ map shown_place l.initial.places ++ map (shown_place) l.others
