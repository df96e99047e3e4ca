use Rattle.std.proofs.Common.{◌≡◌, ◌++◌, drop}
use Rattle.asn_places_types.specs.Sites.{shown_around, shown_sites}
use Rattle.asn_needs.specs.Sites.{each_of}
use Rattle.asn_needs.specs.PartsOfObjects.{item_sites}
use Rattle.asn_places_types.specs.Forms.{shown_of_class}
use Rattle.asn_places_objects.proofs.sets.with_items.Given as goal

abbrev pub invariant-loop-item : goal.invariant-loop-item
invariant-loop-item l =
    shown_sites l.sites ++ each_of (item_sites (shown_around l.around.value) (shown_of_class l.class)) (drop l.item-index l.items)
    ≡ shown_sites l.initial.sites ++ each_of (item_sites (shown_around l.around.value) (shown_of_class l.class)) l.items
