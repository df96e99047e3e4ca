use Rattle.std.proofs.Common.{◌≡◌, ◌++◌, drop, map}
use Rattle.asn_needs.specs.PartsOfValues.{inside, item_type}
use Rattle.asn_meaning_shapes.specs.Members.{shown_members}
use Rattle.asn_places_types.specs.Sites.{shown_around, shown_sites}
use Rattle.asn_places_values.proofs.runs.with_items.Given as goal

abbrev pub invariant-loop-item : goal.invariant-loop-item
invariant-loop-item l =
    shown_sites l.sites ++ map (λ x. inside (shown_around l.around.value) (item_type (shown_members l.members) x.0) x.1) (drop l.item-index l.items)
    ≡ shown_sites l.initial.sites ++ map (λ x. inside (shown_around l.around.value) (item_type (shown_members l.members) x.0) x.1) l.items
