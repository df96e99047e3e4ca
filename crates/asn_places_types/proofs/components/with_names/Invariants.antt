use Rattle.std.proofs.Common.{◌≡◌, ◌++◌, drop, map}
use Rattle.asn_places_types.specs.Sites.{shown_around, shown_sites}
use Rattle.asn_needs.specs.Sites.{ComponentsOf, beside}
use Rattle.asn_places_types.proofs.components.with_names.Given as goal

abbrev pub invariant-loop-name : goal.invariant-loop-name
invariant-loop-name l = shown_sites l.sites ++ map (λ n. beside (shown_around l.around.value) (ComponentsOf n)) (drop l.name-index l.names) ≡ shown_sites l.initial.sites ++ map (λ n. beside (shown_around l.around.value) (ComponentsOf n)) l.names
