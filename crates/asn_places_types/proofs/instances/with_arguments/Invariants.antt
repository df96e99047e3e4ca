use Rattle.std.proofs.Common.{◌≡◌, ◌++◌, drop}
use Rattle.asn_meaning_heads.specs.Scopes.{shown}
use Rattle.asn_needs.specs.PartsOfTypes.{argument_sites}
use Rattle.asn_places_types.specs.Sites.{shown_around, shown_sites}
use Rattle.asn_places_types.proofs.instances.with_arguments.Given as goal

abbrev pub invariant-loop-i : goal.invariant-loop-i
invariant-loop-i l =
    shown_sites l.sites ++ argument_sites (shown_around l.around.value) (shown l.inner) (drop l.i l.dummies) (drop l.i l.arguments)
    ≡ shown_sites l.initial.sites ++ argument_sites (shown_around l.around.value) (shown l.inner) l.dummies l.arguments
