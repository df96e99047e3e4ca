use Rattle.std.proofs.Common.{◌≡◌, ◌++◌, drop, map}
use Rattle.std.specs.Option.{option_map}
use Rattle.asn_meaning_heads.specs.Places.{shown_place}
use Rattle.asn_needs.specs.Sites.{AListed, beside}
use Rattle.asn_places_types.specs.Sites.{shown_around, shown_sites}
use Rattle.asn_places_constraints.proofs.listed.with_components.Given as goal

abbrev pub invariant-loop-component : goal.invariant-loop-component
invariant-loop-component l =
    shown_sites l.sites ++ map (λ x. beside (shown_around l.around.value) (AListed x (option_map (λ p. shown_place p.now) l.place))) (drop l.component-index l.components)
    ≡ shown_sites l.initial.sites ++ map (λ x. beside (shown_around l.around.value) (AListed x (option_map (λ p. shown_place p.now) l.place))) l.components
