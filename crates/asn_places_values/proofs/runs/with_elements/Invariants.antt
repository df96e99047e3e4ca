use Rattle.std.proofs.Common.{◌≡◌, ◌++◌, drop, map}
use Rattle.std.specs.Option.{option_map}
use Rattle.asn_meaning_heads.specs.Places.{shown_place}
use Rattle.asn_meaning_heads.specs.Values.{shown_value}
use Rattle.asn_needs.specs.PartsOfValues.{inside}
use Rattle.asn_places_types.specs.Sites.{shown_around, shown_sites}
use Rattle.asn_places_values.proofs.runs.with_elements.Given as goal

abbrev pub invariant-loop-value : goal.invariant-loop-value
invariant-loop-value l =
    shown_sites l.sites ++ map (λ x. inside (shown_around l.around.value) (option_map (λ p. shown_place p.now) l.element) (shown_value x)) (drop l.value-index l.values)
    ≡ shown_sites l.initial.sites ++ map (λ x. inside (shown_around l.around.value) (option_map (λ p. shown_place p.now) l.element) (shown_value x)) l.values
