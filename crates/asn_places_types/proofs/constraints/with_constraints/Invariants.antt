use Rattle.std.proofs.Common.{◌≡◌, ◌++◌, drop, map}
use Rattle.asn_places_types.specs.Sites.{shown_around, shown_sites}
use Rattle.std.specs.Option.{option_map}
use Rattle.asn_meaning_heads.specs.Places.{shown_place}
use Rattle.asn_needs.specs.Sites.{AConstraint, beside}
use Rattle.asn_places_types.proofs.constraints.with_constraints.Given as goal

abbrev pub invariant-loop-constraint : goal.invariant-loop-constraint
invariant-loop-constraint l = shown_sites l.sites ++ map (λ x. beside (shown_around l.around.value) (AConstraint x (option_map (λ p. shown_place p.now) l.place))) (drop l.constraint-index l.constraints) ≡ shown_sites l.initial.sites ++ map (λ x. beside (shown_around l.around.value) (AConstraint x (option_map (λ p. shown_place p.now) l.place))) l.constraints
