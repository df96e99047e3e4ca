use Rattle.std.proofs.Common.{◌≡◌, ◌++◌, drop, map}
use Rattle.asn_places_types.specs.Sites.{shown_around, shown_sites}
use Rattle.asn_needs.specs.Sites.{ADummy, beside}
use Rattle.asn_places_types.proofs.instances.with_dummies.Given as goal

abbrev pub invariant-loop-dummy : goal.invariant-loop-dummy
invariant-loop-dummy l = shown_sites l.sites ++ map (λ d. beside (shown_around l.around.value) (ADummy d)) (drop l.dummy-index l.dummies) ≡ shown_sites l.initial.sites ++ map (λ d. beside (shown_around l.around.value) (ADummy d)) l.dummies
