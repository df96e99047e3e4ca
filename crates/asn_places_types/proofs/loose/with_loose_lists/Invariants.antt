use Rattle.std.proofs.Common.{◌≡◌, ◌++◌, drop}
use Rattle.asn_meaning.specs.Names.{lists_in}
use Rattle.asn_needs.specs.PartsOfTypes.{loose_lists}
use Rattle.asn_places_types.specs.Sites.{shown_around, shown_sites}
use Rattle.asn_places_types.proofs.loose.with_loose_lists.Given as goal

abbrev pub invariant-loop-constraint : goal.invariant-loop-constraint
invariant-loop-constraint l =
    shown_sites l.sites ++ loose_lists (shown_around l.around.value) (lists_in (drop l.constraint-index l.constraints))
    ≡ shown_sites l.initial.sites ++ loose_lists (shown_around l.around.value) (lists_in l.constraints)
