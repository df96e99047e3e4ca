use Rattle.std.proofs.Common.{◌≡◌, ◌++◌, drop, map}
use Rattle.asn_link.specs.Linked.{linked_each}
use Rattle.asn_link.proofs.linking.linked_each.Given as goal

abbrev pub invariant-loop-i : goal.invariant-loop-i
invariant-loop-i l =
    l.linked ++ linked_each (map (λ d. d.now) (drop l.i l.definitions)) (drop l.i l.tags) (drop l.i l.made) ≡ linked_each (map (λ d. d.now) l.definitions) l.tags l.made
